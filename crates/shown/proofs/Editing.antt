-- What hangs where after the change of one place: new on the path, and as before elsewhere.
use Rattle.std.proofs.Common.{◌≡◌, ℕ, zero, suc, ◌+◌, ◌/◌, ◌%◌, ◌^◌, ◌<◌, ◌≤◌, Bool, true, false, ◌⊎◌, Some, None, Option, sym, refl, ap, ◌∙◌, inl, inr, mod-eq_of_lt, arith}
use mathlib.Core.List.Memᴰ
use mathlib.Core.List.{Memᴰ}
use native.Mathlib.Nat.{mod-one}
use Rattle.forgetting.specs.Tree.{Tree, bare, leaf, node, key_of, even_of, odd_of, Holds, node_keys, to_even, turn, place_in}
use Rattle.forgetting.specs.Change.{edited, drawn, towards, single}
use Rattle.forgetting.proofs.Members.{in_none, in_cons, in_joined}
use Rattle.forgetting.proofs.Keys.{even_keys, odd_keys}
use Rattle.forgetting.proofs.Places.{bits_alike, side_changed}
use Rattle.shown.proofs.NodeNumbers.{turns_alike, index_below}

-- The lowest level, counted from the place, at which a change draws a key.
abbrev pub lowest : {C : Type 0} → Option C → ℕ
lowest None = 1
lowest (Some c) = 0

module _ {K C : Type 0} where
  -- On the path is what the change below makes of what was there.
  pub on_path : (w : Option C) (keys : ℕ → K) (d g h p : ℕ) (t : Tree K C) → d ≡ g + h
      → place_in g (p / 2 ^ h) (edited (single w keys d p) t) ≡ edited (single w keys h p) (place_in g (p / 2 ^ h) t)
  on_path w keys d zero h p t e = let s : d ≡ h = omega arith in ap (λ n. edited (single w keys n p) t) s
  on_path w keys zero (suc g) h p t e = absurd (omega arith)
  on_path w keys (suc d) (suc g) h p t e =
      let s : d ≡ g + h = omega arith in
      let q = p / 2 ^ h in
      let E : Tree K C = edited (towards (to_even d p) (keys (suc d)) (single w keys d p)) t in
      ap (λ b. place_in g q (turn b (even_of E) (odd_of E))) (turns_alike d g h p s)
      ∙ ap (place_in g q) (side_changed (to_even d p) (keys (suc d)) (single w keys d p) t)
      ∙ on_path w keys d g h p (turn (to_even d p) (even_of t) (odd_of t)) s
      ∙ ap (λ b. edited (single w keys h p) (place_in g q (turn b (even_of t) (odd_of t)))) (sym (turns_alike d g h p s))

  -- Off the path all is as it was. Nodes are one where their last bits are the same.
  off_bits : (w : Option C) (keys : ℕ → K) (d g h p i : ℕ) (t : Tree K C) → d ≡ g + h → (i % 2 ^ g ≡ (p / 2 ^ h) % 2 ^ g → ⊥)
      → place_in g i (edited (single w keys d p) t) ≡ place_in g i t
  off_bits w keys d zero h p i t e ne = absurd (ne (mod-one i ∙ sym (mod-one (p / 2 ^ h))))
  off_bits w keys zero (suc g) h p i t e ne = absurd (omega arith)
  off_bits w keys (suc d) (suc g) h p i t e ne =
      sides (to_even d p) (to_even g i) (λ f x. off_bits w keys d g h p i x (omega arith) (λ m. ne (bits_alike g (p / 2 ^ h) i (turns_alike d g h p (omega arith) ∙ f) m)))
    where
      sides : (b b' : Bool) → (b ≡ b' → (x : Tree K C) → place_in g i (edited (single w keys d p) x) ≡ place_in g i x) →
          place_in g i (turn b' (even_of (edited (towards b (keys (suc d)) (single w keys d p)) t)) (odd_of (edited (towards b (keys (suc d)) (single w keys d p)) t))) ≡
          place_in g i (turn b' (even_of t) (odd_of t))
      sides true true alike = alike refl (even_of t)
      sides true false alike = refl
      sides false true alike = refl
      sides false false alike = alike refl (odd_of t)

  pub off_path : (w : Option C) (keys : ℕ → K) (d g h p i : ℕ) (t : Tree K C) → d ≡ g + h → p < 2 ^ d → i < 2 ^ g → (i ≡ p / 2 ^ h → ⊥)
      → place_in g i (edited (single w keys d p) t) ≡ place_in g i t
  off_path w keys d g h p i t e l b ne = off_bits w keys d g h p i t e (λ m. ne (sym (mod-eq_of_lt b) ∙ m ∙ mod-eq_of_lt (index_below d g h p e l)))

  -- The key of a node is one of the tree's.
  top_key : (t : Tree K C) (k : K) → key_of t ≡ Some k → Memᴰ k (node_keys t)
  top_key bare k e = cc
  top_key (leaf j c) k e = Memᴰ.head (cc)
  top_key (node j l r) k e = Memᴰ.head (cc)

  pub key_of_tree : (g i : ℕ) (t : Tree K C) (k : K) → key_of (place_in g i t) ≡ Some k → Memᴰ k (node_keys t)
  key_of_tree zero i t k e = top_key t k e
  key_of_tree (suc g) i t k e = from (to_even g i) (key_of_tree g i (turn (to_even g i) (even_of t) (odd_of t)) k e)
    where
      from : (b : Bool) → Memᴰ k (node_keys (turn b (even_of t) (odd_of t))) → Memᴰ k (node_keys t)
      from true m = even_keys t k m
      from false m = odd_keys t k m

  -- The keys that the change of one place draws.
  pub drawn-one : {P : Type 0} (w : Option C) (keys : ℕ → K) (d p : ℕ) (x : K) → Memᴰ x (drawn (single w keys d p)) → ((h : ℕ) → x ≡ keys h → lowest w ≤ h → h ≤ d → P) → P
  drawn-one None keys zero p x m f = in_none m
  drawn-one (Some c) keys zero p x m f = f 0 (Memᴰ.eq_of_singleton m) (omega arith) (omega arith)
  drawn-one {P} w keys (suc d) p x m f =
      sides (to_even d p) m (λ e. f (suc d) e (first w) (omega arith)) (λ n. drawn-one w keys d p x n (λ h e a b. f h e a (omega arith)))
    where
      first : (v : Option C) → lowest v ≤ suc d
      first None = omega arith
      first (Some c) = omega arith

      sides : (b : Bool) → Memᴰ x (drawn (towards b (keys (suc d)) (single w keys d p))) → (x ≡ keys (suc d) → P) → (Memᴰ x (drawn (single w keys d p)) → P) → P
      sides true n here below = in_cons n here (λ o. in_joined (drawn (single w keys d p)) o below in_none)
      sides false n here below = in_cons n here below

  -- What the places hold afterwards: what was put in, and what they held.
  even_holds : (t : Tree K C) (c : C) → Holds (even_of t) c → Holds t c
  even_holds bare c h = h
  even_holds (leaf k x) c h = absurd h
  even_holds (node k l r) c h = inl h

  odd_holds : (t : Tree K C) (c : C) → Holds (odd_of t) c → Holds t c
  odd_holds bare c h = h
  odd_holds (leaf k x) c h = absurd h
  odd_holds (node k l r) c h = inr h

  pub held_after : (w : Option C) (keys : ℕ → K) (d p : ℕ) (t : Tree K C) (c : C) → Holds (edited (single w keys d p) t) c → (w ≡ Some c) ⊎ Holds t c
  held_after None keys zero p t c h = absurd h
  held_after (Some x) keys zero p t c h = inl (ap Some (sym h))
  held_after w keys (suc d) p t c h = sides (to_even d p) h (held_after w keys d p (even_of t) c) (held_after w keys d p (odd_of t) c)
    where
      wider : {A B X : Type 0} → (A → B) → X ⊎ A → X ⊎ B
      wider f (inl x) = inl x
      wider f (inr a) = inr (f a)

      sides : (b : Bool) → Holds (edited (towards b (keys (suc d)) (single w keys d p)) t) c
          → (Holds (edited (single w keys d p) (even_of t)) c → (w ≡ Some c) ⊎ Holds (even_of t) c) → (Holds (edited (single w keys d p) (odd_of t)) c → (w ≡ Some c) ⊎ Holds (odd_of t) c)
          → (w ≡ Some c) ⊎ Holds t c
      sides true (inl x) even odd = wider (even_holds t c) (even x)
      sides true (inr x) even odd = inr (odd_holds t c x)
      sides false (inl x) even odd = inr (even_holds t c x)
      sides false (inr x) even odd = wider (odd_holds t c) (odd x)
