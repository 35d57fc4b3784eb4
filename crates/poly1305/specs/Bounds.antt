-- How large five limbs are.
use Rattle.std.specs.Prelude.{ℕ, ◌+◌, ◌^◌, ◌<◌}

-- After a carry: only the second may pass 26 bits, and by little, so the number is below twice the prime.
abbrev pub Carried : (l0 l1 l2 l3 l4 : ℕ) → Type 0
Carried l0 l1 l2 l3 l4 = (l0 < 2 ^ 26) × (l1 < 2 ^ 26 + 2 ^ 13) × (l2 < 2 ^ 26) × (l3 < 2 ^ 26) × (l4 < 2 ^ 26)

-- In a sum of two such numbers, before the next carry.
abbrev pub Summed : (l0 l1 l2 l3 l4 : ℕ) → Type 0
Summed l0 l1 l2 l3 l4 = (l0 < 2 ^ 28) × (l1 < 2 ^ 28) × (l2 < 2 ^ 28) × (l3 < 2 ^ 28) × (l4 < 2 ^ 28)
