-- Every key that seals something, and every key that is sealed, was drawn.
use Rattle.std.proofs.Common.{◌≡◌, ℕ, List, [], ◌∷◌, ◌++◌, sym, refl, subst, append_assoc}
use mathlib.Core.List.Memᴰ
use mathlib.Core.List.{Memᴰ}
use Rattle.forgetting.specs.Secret.{Node, Sealed, Key, Content, under}
use Rattle.forgetting.specs.Tree.{Tree, bare, leaf, node, node_keys}
use Rattle.forgetting.specs.Change.{Edit, edited, drawn, things, records}
use Rattle.forgetting.specs.History.{root}
use Rattle.forgetting.proofs.Members.{Within, either, in_none, in_joined, things-joined}
use Rattle.forgetting.proofs.Changes.{records-under}
use Rattle.forgetting.proofs.Keys.{edited-keys, sealed_key_lem}
use Rattle.runs.specs.Moments.{Pending, idle, busy, State, start, chip_key, Act, starts, writes, turns, stops, looks, wrote, turned, step, run, handed, Changes}
use Rattle.runs.specs.Consequences.{KeysDrawn}
use Rattle.runs.proofs.Steps.{left_of}
use Rattle.runs.proofs.Running.{changes-map, NextKept, Keeps, kept_run, kept-start}

module _ {K C : Type 0} where
  changes-handed : (acts : List (Act K C)) (ks : List K) → Within (handed acts) ks → Changes (λ (e : Edit K C). Within (drawn e) ks) acts
  changes-handed [] ks f = tt
  changes-handed (starts next e ∷ acts) ks f = ((λ k m. f k (Memᴰ.append_left (handed acts) m)), changes-handed acts ks (λ k m. f k (Memᴰ.append_right (drawn e) m)))
  changes-handed (writes ∷ acts) ks f = changes-handed acts ks f
  changes-handed (turns ∷ acts) ks f = changes-handed acts ks f
  changes-handed (stops ∷ acts) ks f = changes-handed acts ks f
  changes-handed (looks ∷ acts) ks f = changes-handed acts ks f

  module _ (ks : List K) where
    -- Of what is sealed: the key over it, and the key in it.
    abbrev Inside : Sealed K C → Type 0
    Inside (Key at s u k) = Memᴰ k ks
    Inside (Content at s u c) = Unit {0}

    abbrev FromDrawn : List (Sealed K C) → Type 0
    FromDrawn ws = (w : Sealed K C) → Memᴰ w ws → Memᴰ (under w) ks × Inside w

    abbrev InDrawn : Tree K C → Type 0
    InDrawn t = Within (node_keys t) ks

    -- AT EVERY MOMENT: the keys of the tree, of the one that the change under way makes, and of all that is written, or is left to write, are among these.
    record Among (t : Tree K C) (p : Pending K C) (ws : List (Sealed K C)) : Type 0 where
      pub now : InDrawn t
      pub next : NextKept InDrawn p
      pub from : FromDrawn (ws ++ left_of p)

    abbrev AmongState : State K C → Type 0
    AmongState s = Among s.tree s.pending s.written

    inside : (next : ℕ) (at : Node) (e : Edit K C) (t : Tree K C) → InDrawn (edited e t) → (w : Sealed K C) → Memᴰ w (things (records next at e t)) → Inside w
    inside next at e t f (Key bt s u k) m = f k (sealed_key_lem next at e t bt s u k m)
    inside next at e t f (Content bt s u c) m = tt

    among-starts : (d next : ℕ) (e : Edit K C) (s : State K C) → Within (drawn e) ks → AmongState s → AmongState (step d (starts next e) s)
    among-starts d next e s f g =
        record {
          now = g.now;
          next = made;
          from = λ w m. in_joined s.written m (λ x. g.from w (Memᴰ.append_left (left_of s.pending) x))
              (λ x. (f (under w) (records-under next (root d) e s.tree w x), inside next (root d) e s.tree made w x));
        }
      where
        made : InDrawn (edited e s.tree)
        made k m = either (edited-keys e s.tree k m) (f k) (g.now k)

    among-writes : (s : State K C) (p : Pending K C) → s.pending ≡ p → AmongState s → AmongState (wrote s p)
    among-writes s idle e g = g
    among-writes s (busy [] t) e g = g
    among-writes s (busy (r ∷ rs) t) e g =
        let h : Among s.tree (busy (r ∷ rs) t) s.written = subst (λ (p : Pending K C). Among s.tree p s.written) e g in
        let same : (s.written ++ things (r ∷ [])) ++ things rs ≡ s.written ++ things (r ∷ rs) = cc (append_assoc s.written (things (r ∷ [])) (things rs), things-joined (r ∷ []) rs) in
        record { now = h.now; next = h.next; from = subst FromDrawn (sym same) h.from }

    among-turns : (s : State K C) (p : Pending K C) → s.pending ≡ p → AmongState s → AmongState (turned s p)
    among-turns s idle e g = g
    among-turns s (busy [] t) e g =
        let h : Among s.tree (busy [] t) s.written = subst (λ (p : Pending K C). Among s.tree p s.written) e g in
        record { now = h.next; next = tt; from = h.from }
    among-turns s (busy (r ∷ rs) t) e g = g

    among-run : (d : ℕ) (acts : List (Act K C)) (s : State K C) → Changes (λ (e : Edit K C). Within (drawn e) ks) acts → AmongState s → AmongState (run d acts s)
    among-run d [] s x g = g
    among-run d (starts next e ∷ acts) s x g = among-run d acts (step d (starts next e) s) x.1 (among-starts d next e s x.0 g)
    among-run d (writes ∷ acts) s x g = among-run d acts (step d writes s) x (among-writes s s.pending refl g)
    among-run d (turns ∷ acts) s x g = among-run d acts (step d turns s) x (among-turns s s.pending refl g)
    among-run d (stops ∷ acts) s x g =
        among-run d acts (step d stops s) x
        (record { now = g.now; next = tt; from = λ w m. in_joined s.written m (λ i. g.from w (Memᴰ.append_left (left_of s.pending) i)) (λ i. in_none i) })
    among-run d (looks ∷ acts) s x g = among-run d acts (step d looks s) x (record { now = g.now; next = g.next; from = g.from })

  -- The chip's key at a look is the zeros, or was drawn.
  chip_of_tree : (ks : List K) (z : K) (t : Tree K C) → Within (node_keys t) ks → Memᴰ (chip_key z t) (z ∷ ks)
  chip_of_tree ks z bare f = Memᴰ.head refl
  chip_of_tree ks z (leaf k c) f = Memᴰ.tail (f k (Memᴰ.head refl))
  chip_of_tree ks z (node k l r) f = Memᴰ.tail (f k (Memᴰ.head refl))

  pub chip-drawn : (d : ℕ) (z : K) (acts : List (Act K C)) (r : Tree K C) → Memᴰ r (run d acts (start z)).looks → Memᴰ (chip_key z r) (z ∷ handed acts)
  chip-drawn d z acts r m =
      chip_of_tree (handed acts) z r
      ((kept_run (InDrawn (handed acts)) d acts (start z)
      (changes-map (λ (e : Edit K C). Within (drawn e) (handed acts)) (Keeps (InDrawn (handed acts))) (λ e f t g k i. either (edited-keys e t k i) (f k) (g k)) acts (changes-handed acts (handed acts) (λ k i. i)))
      (kept-start (InDrawn (handed acts)) d z (λ k i. in_none i))).seen r m)

pub keys-drawn : (K C : Type 0) → KeysDrawn K C
keys-drawn K C d z acts = ((λ w m. (all w m).0), λ at s u k m. (all (Key at s u k) m).1)
  where
    all : FromDrawn (handed acts) (run d acts (start z)).written
    all w m =
        (among-run (handed acts) d acts (start z) (changes-handed acts (handed acts) (λ k i. i)) (record { now = λ k i. in_none i; next = tt; from = λ v i. in_none i })).from w
        (Memᴰ.append_left (left_of (run d acts (start z)).pending) m)
