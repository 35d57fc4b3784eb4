-- Down the tree by the numbers of nodes.
use Rattle.std.proofs.Common.{◌≡◌, ℕ, zero, suc, ◌+◌, ◌-◌, ◌/◌, ◌%◌, ◌^◌, ◌<◌, Bool, true, false, eqb, None, sym, refl, ap, ◌∙◌, arith}
use Rattle.std.proofs.lemmas.Bool.{eq-eqb, ne_eqb}
use Rattle.tree.specs.Nodes.{sibling_of}
use Rattle.forgetting.specs.Tree.{Tree, bare, leaf, node, key_of, even_of, odd_of, to_even, turn, place_in}
use Rattle.forgetting.specs.Climb.{sibling_key}
use Rattle.change.proofs.Bridge.{sibling_number}
use Rattle.shown.specs.Theorems.{StepsDown, GoesThrough, SiblingAt}
use Rattle.shown.proofs.NodeNumbers.{shifted, turns_alike, beside, beside_half, beside_turn}

module _ {K C : Type 0} where
  pub through : (d g h p : ℕ) (t : Tree K C) → d ≡ g + h → place_in d p t ≡ place_in h p (place_in g (p / 2 ^ h) t)
  through d zero h p t e = let s : d ≡ h = omega arith in ap (λ n. place_in n p t) s
  through zero (suc g) h p t e = absurd (omega arith)
  through (suc d) (suc g) h p t e =
      let s : d ≡ g + h = omega arith in
      through d g h p (turn (to_even d p) (even_of t) (odd_of t)) s
      ∙ ap (λ b. place_in h p (place_in g (p / 2 ^ h) (turn b (even_of t) (odd_of t)))) (sym (turns_alike d g h p s))

  pub down : (g i : ℕ) (t : Tree K C) → place_in (suc g) i t ≡ turn (eqb (i % 2) 0) (even_of (place_in g (i / 2) t)) (odd_of (place_in g (i / 2) t))
  down g i t =
      let one : i / 1 ≡ i = omega arith in
      through (suc g) g 1 i t (omega arith) ∙ ap (λ n. turn (eqb (n % 2) 0) (even_of (place_in g (i / 2) t)) (odd_of (place_in g (i / 2) t))) one

  -- The sibling on the path hangs on the path node above it.
  pub sibling_on : (d g h p : ℕ) (t : Tree K C) → d ≡ g + suc h
      → sibling_key d p h t ≡ key_of (turn (to_even h p) (odd_of (place_in g (p / 2 ^ suc h) t)) (even_of (place_in g (p / 2 ^ suc h) t)))
  sibling_on zero g h p t e = absurd (omega arith)
  sibling_on (suc d) zero h p t e =
      let s : h ≡ d = omega arith in
      rw (eq-eqb h d s) (ap (λ n. key_of (turn (to_even n p) (odd_of t) (even_of t))) (sym s))
  sibling_on (suc d) (suc g) h p t e =
      let s : d ≡ g + suc h = omega arith in
      rw (ne_eqb h d (λ f. omega arith)) (sibling_on d g h p (turn (to_even d p) (even_of t) (odd_of t)) s
      ∙ ap (λ b. key_of (turn (to_even h p) (odd_of (place_in g (p / 2 ^ suc h) (turn b (even_of t) (odd_of t)))) (even_of (place_in g (p / 2 ^ suc h) (turn b (even_of t) (odd_of t))))))
      (sym (turns_alike d g (suc h) p s)))

  -- So it is the node beside the path node.
  pub sibling_beside : (d g h p : ℕ) (t : Tree K C) → d ≡ g + suc h → sibling_key d p h t ≡ key_of (place_in (suc g) (beside (p / 2 ^ h)) t)
  sibling_beside d g h p t e =
      let q = p / 2 ^ h in
      let up : beside q / 2 ≡ p / 2 ^ suc h = beside_half q ∙ shifted (suc h) 1 h p (omega arith) in
      let X : Tree K C = place_in g (p / 2 ^ suc h) t in
      sibling_on d g h p t e
      ∙ ap key_of (sym (down g (beside q) t ∙ ap (λ n. turn (eqb (beside q % 2) 0) (even_of (place_in g n t)) (odd_of (place_in g n t))) up ∙ beside_turn q (even_of X) (odd_of X)))

  pub sibling_at : (d p h i : ℕ) (t : Tree K C) → h < d → 2 ^ (d - h) + i ≡ sibling_of ((2 ^ d + p) / 2 ^ h) → sibling_key d p h t ≡ key_of (place_in (d - h) i t)
  sibling_at d p h i t l e =
      let g = d - h - 1 in
      let s : d - h ≡ suc g = omega arith in
      let f = sibling_number d p h l in
      let j : beside (p / 2 ^ h) ≡ i = omega arith in
      sibling_beside d g h p t (omega arith) ∙ ap (λ n. key_of (place_in n (beside (p / 2 ^ h)) t)) (sym s) ∙ ap (λ n. key_of (place_in (d - h) n t)) j

  -- Below nothing is nothing.
  pub in_bare : (d p : ℕ) → place_in {K = K} {C = C} d p bare ≡ bare
  in_bare zero p = refl
  in_bare (suc d) p = ap (place_in d p) (none (to_even d p)) ∙ in_bare d p
    where
      none : (b : Bool) → turn {A = Tree K C} b bare bare ≡ bare
      none true = refl
      none false = refl

  -- A node that has no key is bare.
  pub no_key : (t : Tree K C) → key_of t ≡ None → t ≡ bare
  no_key bare e = refl
  no_key (leaf k c) e = cc
  no_key (node k l r) e = cc

pub steps_down : (K C : Type 0) → StepsDown K C
steps_down K C g i t = down g i t

pub goes_through : (K C : Type 0) → GoesThrough K C
goes_through K C d g h p t e = through d g h p t e

pub sibling_is : (K C : Type 0) → SiblingAt K C
sibling_is K C d p h i t l e = sibling_at d p h i t l e
