-- One turn after another.
use Rattle.std.proofs.Common.{◌≡◌, ℕ, ◌+◌, ◌/◌, ◌^◌, List, ◌++◌, Option, sym, pow-suc, add-one}
use native.Mathlib.Nat.{div-div-eq-div-mul}
use Rattle.std.proofs.lemmas.List.{append-nil}
use Rattle.sealing.specs.declared.key.Key.{Key}
use Rattle.change.specs.declared.node.NodeKey.{NodeKey}
use Rattle.change.specs.Coded.{Cipher}
use Rattle.change.specs.Nodes.{sibling_in}
use Rattle.change.specs.Turns.{turn_bytes, turns_bytes}

pub turns_none : (sealed : Cipher) (start first last : ℕ) (keys : List Key) (siblings : List (Option NodeKey)) (before : List ℕ)
    → before ≡ before ++ turns_bytes sealed start first last keys siblings 0
unfolding turns_bytes
turns_none sealed start first last keys siblings before = sym (append-nil before)

pub turns_more : (sealed : Cipher) (start first last : ℕ) (keys : List Key) (siblings : List (Option NodeKey)) (h : ℕ)
    → turns_bytes sealed start first last keys siblings h ++ turn_bytes sealed (start / 2 ^ h) last keys (h + first) (sibling_in siblings h)
    ≡ turns_bytes sealed start first last keys siblings (h + 1)
unfolding turns_bytes
turns_more sealed start first last keys siblings h = rw (add-one h)

-- The node one level up.
pub half_more : (start h node : ℕ) → node ≡ start / 2 ^ h → node / 2 ≡ start / 2 ^ (h + 1)
half_more start h node e = rw (e, add-one h, pow-suc 2 h) (div-div-eq-div-mul start (2 ^ h) 2)
