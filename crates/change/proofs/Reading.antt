-- Keys and nodes read from lists.
use Rattle.std.proofs.Common.{◌≡◌, ℕ, ◌+◌, ◌<◌, List, [], map, length, get_or, set, replicate, None, Option, zero, suc, ◌-◌, sym, refl, ap, ◌∙◌, arith}
use Rattle.std.proofs.lemmas.List.{get_or-map, get_or-set_same, get_or-set_other, map-set, length-map}
use Rattle.std.proofs.lemmas.Bool.{cases_eq}
use Rattle.forgetting.specs.Change.{Numbered}
use Rattle.sealing.specs.declared.key.Key.{Key}
use Rattle.change.specs.declared.node.NodeKey.{NodeKey}
use Rattle.records.specs.Format.{encode}
use Rattle.change.specs.Coded.{Cipher, coded_key, key_bytes}
use Rattle.change.specs.Nodes.{key_in, sibling_in, bytes_in, drawn_key, drawn_before}

-- What an element that was read says of the list.
pub bytes_read : (keys : List Key) (j : ℕ) (key : Key) → j < length keys → key ≡ get_or keys j key → bytes_in keys j ≡ key.bytes
bytes_read keys j key h e = get_or-map (λ (k : Key). k.bytes) keys j key [] h ∙ ap (λ (k : Key). k.bytes) (sym e)

pub sibling_read : (nodes : List (Option NodeKey)) (h : ℕ) (node : Option NodeKey) → h < length nodes → node ≡ get_or nodes h node → sibling_in nodes h ≡ key_in node
sibling_read nodes h node l e = get_or-map key_in nodes h node None l ∙ ap key_in (sym e)

-- The record of the key drawn before key j, under key j.
pub below_bytes : (sealed : Cipher) (node slot last : ℕ) (keys : List Key) (j : ℕ) (below above : Numbered) → (j ≡ 0 → ⊥) → below ≡ drawn_key last keys (j - 1) → above ≡ drawn_key last keys j
    → encode (coded_key sealed node slot above below) ≡ key_bytes sealed node slot (drawn_key last keys j) (drawn_before last keys j)
below_bytes sealed node slot last keys zero below above n b a = absurd (n refl)
below_bytes sealed node slot last keys (suc j) below above n b a =
    let e : suc j - 1 ≡ j = omega arith in
    ap (λ (u : Numbered). encode (coded_key sealed node slot u below)) a
    ∙ ap (λ (k : Numbered). encode (coded_key sealed node slot (drawn_key last keys (suc j)) k)) (b ∙ ap (drawn_key last keys) e)

-- One more key wiped.
pub wiped_more : (keys : List Key) (i : ℕ) (key : Key) → i < length keys → key.bytes ≡ replicate 32 0 → ((j : ℕ) → j < i → bytes_in keys j ≡ replicate 32 0)
    → (j : ℕ) → j < i + 1 → bytes_in (set keys i key) j ≡ replicate 32 0
wiped_more keys i key l z below j h =
    let n : i < length (map (λ (k : Key). k.bytes) keys) = simp length-map l in
    rw (map-set (λ (k : Key). k.bytes) keys i key) (grind (arith, get_or-set_same, get_or-set_other, cases_eq j i))
