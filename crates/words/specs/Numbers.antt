-- Numbers as decimal digits. Texts are lists of character codes.
use Rattle.std.specs.Prelude.{ℕ, ◌+◌, ◌-◌, ◌*◌, ◌^◌, cond, List, [], ◌∷◌, Some, None, Option, nat_lt}
use Rattle.std.specs.Char.{is_ascii_digit}

-- The number of digits that stand behind those of a number; none where a character is no digit.
abbrev pub onward : ℕ → List ℕ → Option ℕ
onward n [] = Some n
onward n (c ∷ text) = cond (is_ascii_digit c) (onward (n * 10 + (c - 48)) text) None

-- A number of at most 32 bits.
abbrev pub narrow : Option ℕ → Option ℕ
narrow None = None
narrow (Some n) = cond (nat_lt n (2 ^ 32)) (Some n) None

-- The number of 32 bits that a text writes.
abbrev pub number : List ℕ → Option ℕ
number text = narrow (onward 0 text)
