-- What holds of decoding and encoding.
use Rattle.std.specs.Prelude.{◌≡◌, ℕ, ◌<◌, ◌≤◌, List, ◌++◌, length, take, slice_index}
use Rattle.records.specs.Format.{Record, encode, Proper}
use Rattle.records.specs.Decode.{one, ends, decoded}

abbrev pub Bytes : List ℕ → Type 0
Bytes bs = (i : ℕ) → slice_index bs i < 256

-- What was encoded decodes to itself and the rest.
abbrev pub DecodesEncoded : Type 0
DecodesEncoded = (levels : ℕ) (r : Record) (rest : List ℕ) → levels ≤ 20 → Proper levels r → decoded levels (encode r ++ rest) ≡ one r rest

-- Whatever decodes is the encoding of what came out, and is proper.
abbrev pub EncodesDecoded : Type 0
EncodesDecoded =
    (levels : ℕ) (bs : List ℕ) (r : Record) (rest : List ℕ) → Bytes bs → decoded levels bs ≡ one r rest → Proper levels r × (bs ≡ encode r ++ rest)

-- A record that is cut off ends too early, wherever it is cut.
abbrev pub TornEnds : Type 0
TornEnds = (levels : ℕ) (r : Record) (j : ℕ) → levels ≤ 20 → Proper levels r → j < length (encode r) → decoded levels (take j (encode r)) ≡ ends
