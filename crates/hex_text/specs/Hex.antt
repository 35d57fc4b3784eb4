-- Byte strings as hex. Texts are lists of character codes, byte strings lists of numbers below 256.
use Rattle.std.specs.Prelude.{◌≡◌, ℕ, ◌+◌, ◌-◌, ◌*◌, ◌/◌, ◌%◌, ◌<◌, Bool, cond, ◌&&◌, List, [], ◌∷◌, ◌++◌, Some, None, Option, nat_le, nat_lt}

-- A character from one to another.
abbrev pub among : (first last c : ℕ) → Bool
among first last c = nat_le first c && nat_le c last

-- The value of a digit: 0 to 9, a to f, A to F.
abbrev pub digit : ℕ → Option ℕ
digit c = cond (among 48 57 c) (Some (c - 48)) (cond (among 97 102 c) (Some (c - 87)) (cond (among 65 70 c) (Some (c - 55)) None))

-- The byte of two digits, the higher half first.
abbrev pub joined : Option ℕ → Option ℕ → Option ℕ
joined None low = None
joined (Some h) None = None
joined (Some h) (Some l) = Some (16 * h + l)

abbrev pub byte : (high low : ℕ) → Option ℕ
byte high low = joined (digit high) (digit low)

-- A byte before a byte string.
abbrev pub before : Option ℕ → Option (List ℕ) → Option (List ℕ)
before None rest = None
before (Some b) None = None
before (Some b) (Some bytes) = Some (b ∷ bytes)

-- The byte string of a text: none where a character is left over or is no digit.
abbrev pub decode : List ℕ → Option (List ℕ)
decode [] = Some []
decode (c ∷ []) = None
decode (c ∷ d ∷ text) = before (byte c d) (decode text)

-- The character of a digit, in lower case.
abbrev pub letter : ℕ → ℕ
letter d = cond (nat_lt d 10) (48 + d) (87 + d)

-- A byte's two digits, the higher half first.
abbrev pub pair : ℕ → List ℕ
pair b = letter (b / 16) ∷ letter (b % 16) ∷ []

-- The text of a byte string.
abbrev pub encode : List ℕ → List ℕ
encode [] = []
encode (b ∷ bytes) = pair b ++ encode bytes

-- Every number is a byte.
abbrev pub Bytes : List ℕ → Type 0
Bytes [] = Unit {0}
Bytes (b ∷ bytes) = (b < 256) × Bytes bytes

-- What was encoded decodes to what it was.
abbrev pub DecodesAgain : Type 0
DecodesAgain = (bytes : List ℕ) → Bytes bytes → decode (encode bytes) ≡ Some bytes
