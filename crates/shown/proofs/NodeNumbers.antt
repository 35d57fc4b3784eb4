-- Nodes by their numbers: the ways down to them, their levels and their siblings.
use Rattle.std.proofs.Common.{◌≡◌, ℕ, suc, ◌+◌, ◌-◌, ◌/◌, ◌%◌, ◌^◌, ◌<◌, ◌≤◌, eqb, ◌⊎◌, sym, ap, ◌∙◌, inl, inr, pow-suc, arith, pow_mono, pow-add, shr_lt}
use native.Mathlib.Nat.{div-div-eq-div-mul}
use Rattle.std.proofs.lemmas.Bool.{cases_eq, cases_lt}
use Rattle.forgetting.specs.Tree.{to_even, turn}

-- So many bits off, and so many more.
pub shifted : (d g h p : ℕ) → d ≡ g + h → p / 2 ^ h / 2 ^ g ≡ p / 2 ^ d
shifted d g h p e =
    let s : h + g ≡ d = omega arith in
    div-div-eq-div-mul p (2 ^ h) (2 ^ g) ∙ ap (λ n. p / n) (sym (pow-add 2 h g)) ∙ ap (λ n. p / 2 ^ n) s

-- The way to a place and the way to a node above it turn alike.
pub turns_alike : (d g h p : ℕ) → d ≡ g + h → to_even g (p / 2 ^ h) ≡ to_even d p
turns_alike d g h p e = ap (λ n. eqb (n % 2) 0) (shifted d g h p e)

-- An even number or an odd one.
pub side : (q : ℕ) → (q % 2 ≡ 0) ⊎ (q % 2 ≡ 1)
side q = elim (cases_eq (q % 2) 0) [ inl e ↦ inl e | inr n ↦ inr (omega arith) ]

-- The index of the sibling of node q, its half and its side.
abbrev pub beside : ℕ → ℕ
beside q = turn (eqb (q % 2) 0) (q + 1) (q - 1)

pub beside_half : (q : ℕ) → beside q / 2 ≡ q / 2
beside_half q = elim (side q) [ inl z ↦ rw z (omega arith) | inr z ↦ rw z (omega arith) ]

pub beside_turn : {A : Type 0} (q : ℕ) (x y : A) → turn (eqb (beside q % 2) 0) x y ≡ turn (eqb (q % 2) 0) y x
beside_turn q x y =
    elim (side q) [
      | inl z ↦ (let o : (q + 1) % 2 ≡ 1 = omega arith in rw (z, o))
      | inr z ↦ (let o : (q - 1) % 2 ≡ 0 = omega arith in rw (z, o))
    ]

pub beside_other : (q : ℕ) → beside q ≡ q → ⊥
beside_other q e = elim (side q) [ inl z ↦ (let f = rw z at e in omega arith) | inr z ↦ (let f = rw z at e in omega arith) ]

-- The index of the node h levels above a place is one of its level's.
pub index_below : (d g h p : ℕ) → d ≡ g + h → p < 2 ^ d → p / 2 ^ h < 2 ^ g
index_below d g h p e l = shr_lt g h (rw e at l)

-- Every level has numbers of its own.
pub level_below : (a b i : ℕ) → a < b → i < 2 ^ a → 2 ^ a + i < 2 ^ b
level_below a b i l h =
    let m : 2 ^ suc a ≤ 2 ^ b = pow_mono {i = suc a} {j = b} (omega arith) in
    let s = pow-suc 2 a in
    omega arith

pub same-level : (a b i j : ℕ) → i < 2 ^ a → j < 2 ^ b → 2 ^ a + i ≡ 2 ^ b + j → a ≡ b
same-level a b i j hi hj e =
    elim (cases_lt a b) [
      | inl l ↦ absurd (let m = level_below a b i l hi in omega arith)
      | inr g ↦ (elim (cases_eq a b) [ inl f ↦ f | inr ne ↦ absurd (let l : b < a = omega arith in let m = level_below b a j l hj in omega arith) ])
    ]

-- The sibling of a node is of the same level, and the only other one that hangs on the same node.
pub beside_below : (a q : ℕ) → q < 2 ^ suc a → beside q < 2 ^ suc a
beside_below a q l =
    let s = pow-suc 2 a in
    elim (side q) [ inl z ↦ rw z (omega arith) | inr z ↦ rw z (omega arith) ]

pub beside_only : (i q : ℕ) → i / 2 ≡ q / 2 → (i ≡ q → ⊥) → i ≡ beside q
beside_only i q e ne =
    elim (side q) [
      | inl z ↦ rw z (elim (side i) [ inl y ↦ absurd (ne (omega arith)) | inr y ↦ omega arith ])
      | inr z ↦ rw z (elim (side i) [ inl y ↦ omega arith | inr y ↦ absurd (ne (omega arith)) ])
    ]
