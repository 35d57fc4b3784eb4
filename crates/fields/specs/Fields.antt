-- What a word comes to as a field of a command.
use Rattle.std.specs.Prelude.{◌≡◌, ℕ, Bool, false, cond, List, [], ◌∷◌, length, Some, Ok, Err, Option, Result, ◌==◌}
use Rattle.std.specs.Option.{ok_or}
use Rattle.hex_text.specs.Hex.{decode, encode}
use Rattle.words.specs.Numbers.{number}
use Rattle.fields.specs.declared.field.Field.{Field}
use Rattle.fields.specs.declared.faults.Failure.{Failure}
use Rattle.fields.specs.declared.faults.Failure.TheVariants as fails
use Rattle.fields.specs.declared.faults.Malformed.{Malformed}
use Rattle.fields.specs.declared.faults.Malformed.TheVariants.{NotHex, Length, NotACounter}

-- The word that stands for the empty byte string.
abbrev pub dash : List ℕ → Bool
dash [] = false
dash (c ∷ []) = c == 45
dash (c ∷ d ∷ word) = false

-- The byte string of a word.
abbrev pub byte_string : List ℕ → Option (List ℕ)
byte_string word = cond (dash word) (Some []) (decode word)

-- A byte string of any length.
unfoldable pub bytes_of : Field → List ℕ → Result (List ℕ) Malformed
bytes_of field word = ok_or (byte_string word) (NotHex field)

-- A byte string of one length.
abbrev pub sized : ℕ → Field → Result (List ℕ) Malformed → Result (List ℕ) Malformed
sized n field (Ok bytes) = cond (length bytes == n) (Ok bytes) (Err (Length field n))
sized n field (Err why) = Err why

unfoldable pub fixed_of : ℕ → Field → List ℕ → Result (List ℕ) Malformed
fixed_of n field word = sized n field (bytes_of field word)

-- A number of 32 bits.
unfoldable pub number_of : Field → List ℕ → Result ℕ Malformed
number_of field word = ok_or (number word) (NotACounter field)

-- That a failure is what is said. Memory may fail.
abbrev pub Complains : {Y : Type 0} → Failure → Result Y Malformed → Type 0
Complains (fails.Malformed why) said = said ≡ Err why
Complains (fails.Refused why) said = ⊥
Complains fails.Memory said = Unit {0}

-- That reading came to what is said.
abbrev pub Reads : {X Y : Type 0} → (X → Y) → Result X Failure → Result Y Malformed → Type 0
Reads value (Ok x) said = said ≡ Ok (value x)
Reads value (Err e) said = Complains e said

-- A byte string as an answer.
abbrev pub written_of : List ℕ → List ℕ
written_of [] = 45 ∷ []
written_of (b ∷ bytes) = encode (b ∷ bytes)
