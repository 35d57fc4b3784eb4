-- Bits in which two strings differ.
use Rattle.std.proofs.Common.{◌≡◌, ℕ, ◌+◌, ◌<◌, List, get_or, ap, ◌∙◌, arith, below_more}
use lib.Bits.{bit_xor, bit_or, or_add_and, xor_add_and, and_le_l, and_le_r, xor_self}

or-none : (a b : ℕ) → bit_or a b ≡ 0 → (a ≡ 0) × (b ≡ 0)
or-none a b e =
    (omega (arith, or_add_and a b, and_le_l a b, and_le_r a b), omega (arith, or_add_and a b, and_le_l a b, and_le_r a b))

xor_none : (a b : ℕ) → bit_xor a b ≡ 0 → a ≡ b
xor_none a b e = omega (arith, xor_add_and a b, and_le_l a b, and_le_r a b)

-- One more byte: no bit so far says that the strings are alike.
pub alike_more : (a b : List ℕ) (d i : ℕ) → (d ≡ 0 → (k : ℕ) → k < i → get_or a k 0 ≡ get_or b k 0)
    → bit_or d (bit_xor (get_or a i 0) (get_or b i 0)) ≡ 0 → (k : ℕ) → k < i + 1 → get_or a k 0 ≡ get_or b k 0
alike_more a b d i p e =
    let z = or-none d (bit_xor (get_or a i 0) (get_or b i 0)) e in
    below_more (λ k. get_or a k 0 ≡ get_or b k 0) i (p z.0) (xor_none _ _ z.1)

-- One more byte of one string beside itself.
pub none_more : (a b : List ℕ) (d i : ℕ) → (a ≡ b → d ≡ 0) → a ≡ b → bit_or d (bit_xor (get_or a i 0) (get_or b i 0)) ≡ 0
none_more a b d i p e =
    ap (λ x. bit_or x (bit_xor (get_or a i 0) (get_or b i 0))) (p e) ∙ ap (λ l. bit_xor (get_or l i 0) (get_or b i 0)) e ∙ xor_self (get_or b i 0)
