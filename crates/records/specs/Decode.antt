-- Decoding: the record at the front of a string of bytes, and the rest; or that it ends too early; or that it has another form.
use Rattle.std.specs.Prelude.{ℕ, ◌+◌, ◌*◌, ◌^◌, Bool, cond, ◌&&◌, List, length, take, drop, ◌==◌, nat_le, nat_lt, slice_index}
use Rattle.records.specs.Format.{Record, key, content, out, key_tag, content_tag, out_tag, longest_content, highest}

pub data Decoded : Type 0 where
  one : (r : Record) (rest : List ℕ) → Decoded
  ends : Decoded
  other : Decoded

-- The numbers that stand in the two, or the four bytes from i on.
unfoldable pub number2 : List ℕ → ℕ → ℕ
number2 bs i = slice_index bs i * 256 + slice_index bs (i + 1)

unfoldable pub number4 : List ℕ → ℕ → ℕ
number4 bs i = slice_index bs i * 16777216 + slice_index bs (i + 1) * 65536 + slice_index bs (i + 2) * 256 + slice_index bs (i + 3)

abbrev pub is_place : (levels node : ℕ) → Bool
is_place levels node = nat_le (2 ^ levels) node && nat_lt node (2 ^ (levels + 1))

abbrev pub is_number : ℕ → Bool
is_number n = nat_le 1 n && nat_le n highest

-- 61 bytes: node, number, the number above, the sealed key.
abbrev pub key_at : (levels : ℕ) → List ℕ → Decoded
key_at levels bs =
    cond (nat_lt (length bs) 61) ends
    (cond ((nat_le 2 (number4 bs 1) && nat_lt (number4 bs 1) (2 ^ (levels + 1))) && (nat_le 1 (number4 bs 5) && (nat_lt (number4 bs 5) (number4 bs 9) && nat_le (number4 bs 9) highest)))
    (one (key (number4 bs 1) (number4 bs 5) (number4 bs 9) (take 48 (drop 13 bs))) (drop 61 bs)) other)

-- 11 bytes: node, number, the length of the content; then the sealed content.
abbrev pub content_at : (levels : ℕ) → List ℕ → Decoded
content_at levels bs =
    cond (nat_lt (length bs) 11) ends
    (cond ((is_place levels (number4 bs 1) && is_number (number4 bs 5)) && (nat_le 1 (number2 bs 9) && nat_le (number2 bs 9) longest_content))
    (cond (nat_lt (length bs) (27 + number2 bs 9)) ends (one (content (number4 bs 1) (number4 bs 5) (take (number2 bs 9 + 16) (drop 11 bs))) (drop (27 + number2 bs 9) bs)))
    other)

-- 9 bytes: node, the number of the next key.
abbrev pub out_at : (levels : ℕ) → List ℕ → Decoded
out_at levels bs =
    cond (nat_lt (length bs) 9) ends
    (cond (is_place levels (number4 bs 1) && is_number (number4 bs 5)) (one (out (number4 bs 1) (number4 bs 5)) (drop 9 bs)) other)

-- Which of the three it is, by the first byte.
abbrev pub by_tag : (levels : ℕ) → List ℕ → Decoded
by_tag levels bs =
    cond (slice_index bs 0 == key_tag) (key_at levels bs)
    (cond (slice_index bs 0 == content_tag) (content_at levels bs)
    (cond (slice_index bs 0 == out_tag) (out_at levels bs) other))

unfoldable pub decoded : (levels : ℕ) → List ℕ → Decoded
decoded levels bs = cond (length bs == 0) ends (by_tag levels bs)
