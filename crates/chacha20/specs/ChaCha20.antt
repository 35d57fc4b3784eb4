-- ChaCha20, as RFC 8439 sections 2.1 to 2.4 have it. Words are numbers below 2 ^ 32, a state is a list of 16 words, bytes are numbers below 256.
use Rattle.std.specs.Prelude.{ℕ, zero, suc, ◌+◌, ◌-◌, ◌*◌, ◌/◌, ◌%◌, ◌^◌, List, [], ◌∷◌, ◌++◌, length, take, drop, set, bit_or, bit_xor, slice_index, slice_set}
use Rattle.std.specs.Simd.Lanes.{zip2}
use Rattle.octets.specs.Endian.{le, le_bytes}

-- 2.1 The sum of two words.
unfoldable pub plus : ℕ → ℕ → ℕ
plus a b = (a + b) % 2 ^ 32

-- A word rotated left by n bits.
unfoldable pub rotl : (x n : ℕ) → ℕ
rotl x n = bit_or ((x * 2 ^ n) % 2 ^ 32) (x / 2 ^ (32 - n))

-- One line of the quarter round, on the words a, b and d of a state: a += b; d ^= a; d <<<= n.
unfoldable pub line : (s : List ℕ) (a b d n : ℕ) → List ℕ
line s a b d n =
    let t = set s a (plus (slice_index s a) (slice_index s b)) in slice_set t d (rotl (bit_xor (slice_index t d) (slice_index t a)) n)

-- 2.2 QUARTERROUND(a, b, c, d).
abbrev pub quarter_round : (s : List ℕ) (a b c d : ℕ) → List ℕ
quarter_round s a b c d = line (line (line (line s a b d 16) c d b 12) a b d 8) c d b 7

-- 2.3 Ten times a round down the columns and one along the diagonals.
abbrev pub column_round : List ℕ → List ℕ
column_round s =
    quarter_round (quarter_round (quarter_round (quarter_round s 0 4 8 12) 1 5 9 13) 2 6 10 14) 3 7 11 15

abbrev pub diagonal_round : List ℕ → List ℕ
diagonal_round s =
    quarter_round (quarter_round (quarter_round (quarter_round s 0 5 10 15) 1 6 11 12) 2 7 8 13) 3 4 9 14

unfoldable pub double_rounds : ℕ → List ℕ → List ℕ
double_rounds zero s = s
double_rounds (suc n) s = diagonal_round (column_round (double_rounds n s))

-- Word i of a string of bytes.
unfoldable pub word : (bytes : List ℕ) (i : ℕ) → ℕ
word bytes i = le (take 4 (drop (4 * i) bytes))

-- The state that a block begins from: the constants, the key, the block counter, the nonce.
unfoldable pub initial : (key : List ℕ) (counter : ℕ) (nonce : List ℕ) → List ℕ
initial key counter nonce =
    0x61707865 ∷ 0x3320646e ∷ 0x79622d32 ∷ 0x6b206574
    ∷ word key 0 ∷ word key 1 ∷ word key 2 ∷ word key 3
    ∷ word key 4 ∷ word key 5 ∷ word key 6 ∷ word key 7
    ∷ counter ∷ word nonce 0 ∷ word nonce 1 ∷ word nonce 2 ∷ []

-- Twenty rounds, and the state that they began from added.
abbrev pub mixed : List ℕ → List ℕ
mixed s = zip2 plus (double_rounds 10 s) s

-- The words as bytes.
unfoldable pub serialize : List ℕ → List ℕ
serialize [] = []
serialize (w ∷ ws) = le_bytes 4 w ++ serialize ws

-- The 64 bytes that a state makes, and the block of a key, a counter and a nonce.
unfoldable pub output : List ℕ → List ℕ
output s = serialize (mixed s)

abbrev pub block : (key : List ℕ) (counter : ℕ) (nonce : List ℕ) → List ℕ
block key counter nonce = output (initial key counter nonce)

-- 2.4 n blocks, one after the other.
unfoldable pub key_stream : (key : List ℕ) (counter : ℕ) (nonce : List ℕ) (n : ℕ) → List ℕ
key_stream key counter nonce zero = []
key_stream key counter nonce (suc n) = block key counter nonce ++ key_stream key (counter + 1) nonce n

-- How many blocks a text of n bytes takes.
abbrev pub blocks : ℕ → ℕ
blocks n = (n + 63) / 64

-- The text, each byte with that of the key stream by exclusive or; of the last block's bytes those that are left over are not used.
unfoldable pub encrypt : (key : List ℕ) (counter : ℕ) (nonce text : List ℕ) → List ℕ
encrypt key counter nonce text = zip2 bit_xor text (key_stream key counter nonce (blocks (length text)))
