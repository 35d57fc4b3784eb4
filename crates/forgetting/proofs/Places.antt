-- What the places hold: a key exactly with a content, and what the change of one place draws and sets.
use Rattle.std.proofs.Common.{◌≡◌, ℕ, zero, suc, ◌+◌, ◌*◌, ◌/◌, ◌%◌, ◌^◌, ◌<◌, Bool, true, false, eqb, length, is_some, Some, None, Option, sym, refl, ap, ◌∙◌, append-nil, mod-lt, mod-eq_of_lt, one-add, arith, lit<}
use native.Mathlib.Nat.{mod-one}
use lib.Pow.{mod-pow-add}
use Rattle.std.proofs.lemmas.Bool.{eqb-true, eqb-false}
use Rattle.forgetting.specs.Tree.{Tree, bare, leaf, node, key_of, even_of, odd_of, Levels, to_even, turn, place_in, content_of}
use Rattle.forgetting.specs.Change.{Edit, edited, drawn, towards, single, draws}
use Rattle.forgetting.specs.History.{AtPlaces, KeyWhileHeld, SingleDraws, SingleSets}
use Rattle.forgetting.proofs.Invariant.{even_levels, odd_levels, sound}

-- One level more, one key more.
draws-suc : {C : Type 0} (w : Option C) (d : ℕ) → draws w (suc d) ≡ suc (draws w d)
draws-suc None d = refl
draws-suc (Some c) d = omega arith

-- The last d + 1 bits of a number are the topmost of them, and the last d.
bits-suc : (n d : ℕ) → n % 2 ^ suc d ≡ (n / 2 ^ d % 2) * 2 ^ d + n % 2 ^ d
bits-suc n d = ap (λ x. n % 2 ^ x) (sym (one-add d)) ∙ mod-pow-add n 1 d

-- Two bits that are both 0, or neither, are the same.
bit_alike : (m n : ℕ) → m < 2 → n < 2 → eqb m 0 ≡ eqb n 0 → m ≡ n
bit_alike m n lm ln e = go (eqb n 0) e refl
  where
    go : (b : Bool) → eqb m 0 ≡ b → eqb n 0 ≡ b → m ≡ n
    go true x y = omega (arith, eqb-true m 0 x, eqb-true n 0 y)
    go false x y = omega (arith, eqb-false m 0 x, eqb-false n 0 y)

-- Places that turn alike at a level, and have the same last bits below it, have the same with it.
pub bits_alike : (d p q : ℕ) → to_even d p ≡ to_even d q → q % 2 ^ d ≡ p % 2 ^ d → q % 2 ^ suc d ≡ p % 2 ^ suc d
bits_alike d p q e f = cc (bits-suc p d, bits-suc q d, bit_alike (p / 2 ^ d % 2) (q / 2 ^ d % 2) (mod-lt (p / 2 ^ d) (lit< tt)) (mod-lt (q / 2 ^ d) (lit< tt)) e)

module _ {K C : Type 0} where
  -- At a place of a tree of d levels is a tree of none.
  place_levels : (d p : ℕ) (t : Tree K C) → Levels d t → Levels 0 (place_in d p t)
  place_levels zero p t l = l
  place_levels (suc d) p t l = place_levels d p (turn (to_even d p) (even_of t) (odd_of t)) (side (to_even d p))
    where
      side : (b : Bool) → Levels d (turn b (even_of t) (odd_of t))
      side true = even_levels d t l
      side false = odd_levels d t l

  -- A tree of no levels has a key exactly where it holds a content.
  place-key : (t : Tree K C) → Levels 0 t → is_some (key_of t) ≡ is_some (content_of t)
  place-key bare l = refl
  place-key (leaf k c) l = refl
  place-key (node k x y) l = absurd l

  -- One level up, it is still at the places.
  towards-at-places : (d : ℕ) (b : Bool) (k : K) (e : Edit K C) → AtPlaces d e → AtPlaces (suc d) (towards b k e)
  towards-at-places d true k e a = (a, tt)
  towards-at-places d false k e a = (tt, a)

  -- The change of one place is at a place.
  pub single-at-places : (w : Option C) (keys : ℕ → K) (d p : ℕ) → AtPlaces d (single w keys d p)
  single-at-places None keys zero p = tt
  single-at-places (Some c) keys zero p = tt
  single-at-places w keys (suc d) p = towards-at-places d (to_even d p) (keys (suc d)) (single w keys d p) (single-at-places w keys d p)

  -- A node draws one key more than the change below it.
  towards-length : (b : Bool) (k : K) (e : Edit K C) → length (drawn (towards b k e)) ≡ suc (length (drawn e))
  towards-length true k e = ap (λ ks. suc (length ks)) (append-nil (drawn e))
  towards-length false k e = refl

  -- The change of one place draws as many keys as it says.
  single-length : (w : Option C) (keys : ℕ → K) (d p : ℕ) → length (drawn (single w keys d p)) ≡ draws w d
  single-length None keys zero p = refl
  single-length (Some c) keys zero p = refl
  single-length w keys (suc d) p = towards-length (to_even d p) (keys (suc d)) (single w keys d p) ∙ ap suc (single-length w keys d p) ∙ sym (draws-suc w d)

  -- On the side that a change goes to is what the change below makes of it.
  pub side_changed : (b : Bool) (k : K) (e : Edit K C) (t : Tree K C) →
      turn b (even_of (edited (towards b k e) t)) (odd_of (edited (towards b k e) t)) ≡ edited e (turn b (even_of t) (odd_of t))
  side_changed true k e t = refl
  side_changed false k e t = refl

  -- The changed place holds what was put in, or nothing.
  single_here : (w : Option C) (keys : ℕ → K) (d p : ℕ) (t : Tree K C) → content_of (place_in d p (edited (single w keys d p) t)) ≡ w
  single_here None keys zero p t = refl
  single_here (Some c) keys zero p t = refl
  single_here w keys (suc d) p t =
      ap (λ x. content_of (place_in d p x)) (side_changed (to_even d p) (keys (suc d)) (single w keys d p) t) ∙ single_here w keys d p (turn (to_even d p) (even_of t) (odd_of t))

  -- Every other place holds what it held. Places are one in a tree of d levels where their last d bits are the same.
  single_elsewhere : (w : Option C) (keys : ℕ → K) (d p q : ℕ) (t : Tree K C) → (q % 2 ^ d ≡ p % 2 ^ d → ⊥) →
      content_of (place_in d q (edited (single w keys d p) t)) ≡ content_of (place_in d q t)
  single_elsewhere w keys zero p q t ne = absurd (ne (mod-one q ∙ sym (mod-one p)))
  single_elsewhere w keys (suc d) p q t ne = side (to_even d p) (to_even d q) (λ e x. single_elsewhere w keys d p q x (λ f. ne (bits_alike d p q e f)))
    where
      side : (b b' : Bool) → (b ≡ b' → (x : Tree K C) → content_of (place_in d q (edited (single w keys d p) x)) ≡ content_of (place_in d q x)) →
          content_of (place_in d q (turn b' (even_of (edited (towards b (keys (suc d)) (single w keys d p)) t)) (odd_of (edited (towards b (keys (suc d)) (single w keys d p)) t)))) ≡
          content_of (place_in d q (turn b' (even_of t) (odd_of t)))
      side true true alike = alike refl (even_of t)
      side true false alike = refl
      side false true alike = refl
      side false false alike = alike refl (odd_of t)

pub key_while_held : (K C : Type 0) → KeyWhileHeld K C
key_while_held K C d t ks ws h p = place-key (place_in d p t) (place_levels d p t (sound h).levels)

pub single-draws : (K C : Type 0) → SingleDraws K C
single-draws K C w keys d p = (single-at-places w keys d p, single-length w keys d p)

pub single_sets : (K C : Type 0) → SingleSets K C
single_sets K C w keys d p t = (single_here w keys d p t, λ q lp lq ne. single_elsewhere w keys d p q t (λ e. ne (sym (mod-eq_of_lt lq) ∙ e ∙ mod-eq_of_lt lp)))
