-- A loop that puts a function of two lists over the first of them, place by place.
use Rattle.std.proofs.Common.{◌≡◌, ℕ, zero, suc, ◌+◌, ◌<◌, ◌≤◌, List, [], ◌∷◌, ◌++◌, length, get_or, set, sym, refl, ap, ◌∙◌, arith}
use lib.Lanes.{zip2}
use Rattle.std.proofs.lemmas.List.{get_or-set_same, get_or-set_other, ext_get_or}
use Rattle.std.proofs.lemmas.Simd.{get_or-zip2}
use Rattle.std.proofs.lemmas.Bool.{cases_eq}

-- One more place.
pub zip_more : (f : ℕ → ℕ → ℕ) (xs ys s : List ℕ) (i : ℕ) → i < length s
    → ((k : ℕ) → k < i → get_or s k 0 ≡ f (get_or xs k 0) (get_or ys k 0))
    → ((k : ℕ) → i ≤ k → get_or s k 0 ≡ get_or xs k 0)
    → ((k : ℕ) → k < i + 1 → get_or (set s i (f (get_or s i 0) (get_or ys i 0))) k 0 ≡ f (get_or xs k 0) (get_or ys k 0))
    × ((k : ℕ) → i + 1 ≤ k → get_or (set s i (f (get_or s i 0) (get_or ys i 0))) k 0 ≡ get_or xs k 0)
zip_more f xs ys s i h p q =
    (λ k l. grind (arith, get_or-set_same, get_or-set_other, cases_eq k i), λ k l. grind (arith, get_or-set_other))

pub length-zip2-le : (f : ℕ → ℕ → ℕ) (xs ys : List ℕ) → length xs ≤ length ys → length (zip2 f xs ys) ≡ length xs
length-zip2-le f [] ys h = refl
length-zip2-le f (x ∷ xs) [] h = omega arith
length-zip2-le f (x ∷ xs) (y ∷ ys) h = ap suc (length-zip2-le f xs ys (omega arith))

zero_ne_suc : (n : ℕ) → zero ≡ suc n → ⊥
zero_ne_suc n e = omega arith

-- All places.
pub zip_all : (f : ℕ → ℕ → ℕ) (xs ys s : List ℕ) → length s ≡ length xs → length xs ≤ length ys
    → ((k : ℕ) → k < length xs → get_or s k 0 ≡ f (get_or xs k 0) (get_or ys k 0))
    → s ≡ zip2 f xs ys
zip_all f xs ys s a b p =
    ext_get_or 0 s (zip2 f xs ys) (a ∙ sym (length-zip2-le f xs ys b))
    (λ k h. p k (omega arith) ∙ sym (get_or-zip2 f xs ys k 0 0 0 (omega arith) (omega arith)))

-- Joined lists, part by part.
pub zip2-append : (f : ℕ → ℕ → ℕ) (xs ys us vs : List ℕ) → length xs ≡ length us → zip2 f (xs ++ ys) (us ++ vs) ≡ zip2 f xs us ++ zip2 f ys vs
zip2-append f [] ys [] vs e = refl
zip2-append f [] ys (u ∷ us) vs e = absurd (zero_ne_suc (length us) e)
zip2-append f (x ∷ xs) ys [] vs e = absurd (zero_ne_suc (length xs) (sym e))
zip2-append f (x ∷ xs) ys (u ∷ us) vs e = ap (λ (l : List ℕ). f x u ∷ l) (zip2-append f xs ys us vs (omega arith))

-- A function undone by itself.
pub zip2_twice : (f : ℕ → ℕ → ℕ) → ((a b : ℕ) → f (f a b) b ≡ a) → (xs ys : List ℕ) → length xs ≤ length ys → zip2 f (zip2 f xs ys) ys ≡ xs
zip2_twice f u [] ys h = refl
zip2_twice f u (x ∷ xs) [] h = absurd (zero_ne_suc (length xs) (omega arith))
zip2_twice f u (x ∷ xs) (y ∷ ys) h = rw (u x y, zip2_twice f u xs ys (omega arith))
