-- Membership in lists, and in what records seal.
use Rattle.std.proofs.Common.{◌≡◌, Bool, true, false, ◌⊎◌, List, [], ◌∷◌, ◌++◌, sym, refl, ap, ⊎_elim}
use mathlib.Core.List.Memᴰ
use mathlib.Core.List.{Memᴰ}
use Rattle.forgetting.specs.Secret.{Sealed}
use Rattle.forgetting.specs.Change.{Record, sealing, taking, things, sealings, in_turn}
use Rattle.forgetting.specs.Lawful.{Apart, New}

-- Each of xs is in ys.
abbrev pub Within : {A : Type 0} → (xs ys : List A) → Type 0
Within {A} xs ys = (x : A) → Memᴰ x xs → Memᴰ x ys

-- Cases, after what they are of.
pub either : {A B P : Type 0} → A ⊎ B → (A → P) → (B → P) → P
either s f g = ⊎_elim f g s

-- Nothing is in the empty list.
pub in_none : {A P : Type 0} {a : A} → Memᴰ a [] → P
in_none m = absurd (Memᴰ.not-nil m)

-- What is in a list is its first, or in the rest.
pub in_cons : {A P : Type 0} {a x : A} {xs : List A} → Memᴰ a (x ∷ xs) → (a ≡ x → P) → (Memᴰ a xs → P) → P
in_cons m = either (Memᴰ.cases_cons m)

-- What is in two lists joined is in one of them.
pub in_joined : {A P : Type 0} {a : A} (xs : List A) {ys : List A} → Memᴰ a (xs ++ ys) → (Memᴰ a xs → P) → (Memᴰ a ys → P) → P
in_joined xs m = either (Memᴰ.append_cases xs m)

-- Joined to the same.
pub within_joined : {A : Type 0} (zs : List A) {xs ys : List A} → Within xs ys → Within (zs ++ xs) (zs ++ ys)
within_joined zs {xs} {ys} f x m = in_joined zs m (Memᴰ.append_left ys) (λ n. Memᴰ.append_right zs (f x n))

-- APART: two lists joined have no two the same just where neither has, and none is in both.
pub record Split {A : Type 0} (xs ys : List A) : Type 0 where
  pub first : Apart xs
  pub second : Apart ys
  pub between : New xs ys

pub split : {A : Type 0} (xs ys : List A) → Apart (xs ++ ys) → Split xs ys
split [] ys a = record { first = tt; second = a; between = λ k m n. in_none n }
split (x ∷ xs) ys a =
    let s = split xs ys a.1 in
    record {
      first = ((λ m. a.0 (Memᴰ.append_left ys m)), s.first);
      second = s.second;
      between = λ k m n. in_cons n (λ e. a.0 (Memᴰ.append_right xs (Memᴰ.cast (sym e) m))) (s.between k m);
    }

pub apart-joined : {A : Type 0} (xs ys : List A) → Split xs ys → Apart (xs ++ ys)
apart-joined [] ys s = s.second
apart-joined (x ∷ xs) ys s = (
  (λ m. in_joined xs m s.first.0 (λ n. s.between x n (Memᴰ.head refl))),
  apart-joined xs ys (record { first = s.first.1; second = s.second; between = λ k m n. s.between k m (Memᴰ.tail n) }),
)

-- What two lists of records seal, joined.
pub things-joined : {K C : Type 0} (xs ys : List (Record K C)) → things (xs ++ ys) ≡ things xs ++ things ys
things-joined [] ys = refl
things-joined (sealing s ∷ xs) ys = ap (λ l. s ∷ l) (things-joined xs ys)
things-joined (taking at next ∷ xs) ys = things-joined xs ys

pub things-sealings : {K C : Type 0} (ss : List (Sealed K C)) → things (sealings ss) ≡ ss
things-sealings [] = refl
things-sealings (s ∷ ss) = ap (λ l. s ∷ l) (things-sealings ss)

-- In turn, the same are listed as in order.
pub from_turn : {A : Type 0} (b : Bool) (xs ys : List A) → Within (in_turn b xs ys) (xs ++ ys)
from_turn true xs ys x m = in_joined ys m (Memᴰ.append_right xs) (Memᴰ.append_left ys)
from_turn false xs ys x m = m

pub to_turn : {A : Type 0} (b : Bool) (xs ys : List A) → Within (xs ++ ys) (in_turn b xs ys)
to_turn true xs ys x m = in_joined xs m (Memᴰ.append_right ys) (Memᴰ.append_left xs)
to_turn false xs ys x m = m
