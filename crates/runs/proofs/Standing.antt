-- A content that a tree holds stands in one of its places, and the other way round.
use Rattle.std.proofs.Common.{◌≡◌, ℕ, zero, suc, ◌+◌, ◌*◌, ◌/◌, ◌%◌, ◌^◌, ◌<◌, Bool, true, false, eqb, Some, sym, refl, ap, ◌∙◌, inl, inr, mod-eq_of_lt, pow-suc, one-add, arith, lit<}
use native.Mathlib.Nat.{div-eq_of_lt}
use lib.Pow.{high, low, field, mod-mod-pow}
use Rattle.forgetting.specs.Tree.{Tree, bare, leaf, node, even_of, odd_of, Holds, Levels, to_even, turn, place_in, content_of}
use Rattle.runs.specs.Moments.{Stands}
use Rattle.runs.proofs.Closure.{none_not_some}

pub some_same : {A : Type 0} (a b : A) → Some a ≡ Some b → a ≡ b
some_same a b e = cc

-- The last d bits of a number say where the path to it turns.
turns_alike : (d p q : ℕ) → q % 2 ^ suc d ≡ p % 2 ^ suc d → to_even d q ≡ to_even d p
turns_alike d p q e =
    let f : q % 2 ^ (1 + d) ≡ p % 2 ^ (1 + d) = rw (one-add d) e in
    ap (λ x. eqb x 0) (sym (field q 1 d) ∙ ap (λ x. x / 2 ^ d) f ∙ field p 1 d)

bits_below : (d p q : ℕ) → q % 2 ^ suc d ≡ p % 2 ^ suc d → q % 2 ^ d ≡ p % 2 ^ d
bits_below d p q e =
    let f : q % 2 ^ (1 + d) ≡ p % 2 ^ (1 + d) = rw (one-add d) e in
    sym (mod-mod-pow q 1 d) ∙ ap (λ x. x % 2 ^ d) f ∙ mod-mod-pow p 1 d

low_even : (d q : ℕ) → q < 2 ^ d → to_even d q ≡ true
low_even d q l = rw (div-eq_of_lt l) refl

high_odd : (d q : ℕ) → q < 2 ^ d → to_even d (1 * 2 ^ d + q) ≡ false
high_odd d q l = rw (high 1 d l) refl

high_less : (d q : ℕ) → q < 2 ^ d → 1 * 2 ^ d + q < 2 ^ suc d
high_less d q l = rw (pow-suc 2 d) (omega arith)

module _ {K C : Type 0} where
  -- Places with the same last d bits are one.
  place_alike : (d p q : ℕ) (t : Tree K C) → q % 2 ^ d ≡ p % 2 ^ d → place_in d q t ≡ place_in d p t
  place_alike zero p q t e = refl
  place_alike (suc d) p q t e =
      ap (λ b. place_in d q (turn b (even_of t) (odd_of t))) (turns_alike d p q e) ∙ place_alike d p q (turn (to_even d p) (even_of t) (odd_of t)) (bits_below d p q e)

  pub holds_even : (t : Tree K C) (c : C) → Holds (even_of t) c → Holds t c
  holds_even bare c h = h
  holds_even (leaf k x) c h = absurd h
  holds_even (node k l r) c h = inl h

  pub holds_odd : (t : Tree K C) (c : C) → Holds (odd_of t) c → Holds t c
  holds_odd bare c h = h
  holds_odd (leaf k x) c h = absurd h
  holds_odd (node k l r) c h = inr h

  content-holds : (t : Tree K C) (c : C) → content_of t ≡ Some c → Holds t c
  content-holds bare c e = absurd (none_not_some c e)
  content-holds (leaf k x) c e = sym (some_same x c e)
  content-holds (node k l r) c e = absurd (none_not_some c e)

  pub stands-holds : (d p : ℕ) (t : Tree K C) (c : C) → content_of (place_in d p t) ≡ Some c → Holds t c
  stands-holds zero p t c e = content-holds t c e
  stands-holds (suc d) p t c e = side (to_even d p) (stands-holds d p (turn (to_even d p) (even_of t) (odd_of t)) c e)
    where
      side : (b : Bool) → Holds (turn b (even_of t) (odd_of t)) c → Holds t c
      side true h = holds_even t c h
      side false h = holds_odd t c h

  in_even : (d : ℕ) (k : K) (l r : Tree K C) (c : C) → Stands d l c → Stands (suc d) (node k l r) c
  in_even d k l r c (q, less, e) = (q, rw (pow-suc 2 d) (omega arith), ap (λ b. content_of (place_in d q (turn b l r))) (low_even d q less) ∙ e)

  in_odd : (d : ℕ) (k : K) (l r : Tree K C) (c : C) → Stands d r c → Stands (suc d) (node k l r) c
  in_odd d k l r c (q, less, e) = (
    1 * 2 ^ d + q,
    high_less d q less,
    ap (λ b. content_of (place_in d (1 * 2 ^ d + q) (turn b l r))) (high_odd d q less) ∙ ap content_of (place_alike d q (1 * 2 ^ d + q) r (low 1 d less ∙ sym (mod-eq_of_lt less))) ∙ e,
  )

  pub holds-stands : (d : ℕ) (t : Tree K C) (c : C) → Levels d t → Holds t c → Stands d t c
  holds-stands d bare c l h = absurd h
  holds-stands zero (leaf k x) c l h = (0, lit< tt, ap Some (sym h))
  holds-stands (suc d) (leaf k x) c l h = absurd l
  holds-stands zero (node k x y) c l h = absurd l
  holds-stands (suc d) (node k x y) c l (inl h) = in_even d k x y c (holds-stands d x c l.0 h)
  holds-stands (suc d) (node k x y) c l (inr h) = in_odd d k x y c (holds-stands d y c l.1 h)
