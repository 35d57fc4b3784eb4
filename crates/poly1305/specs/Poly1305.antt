-- Poly1305, as RFC 8439 section 2.5 has it. Bytes are numbers below 256; keys, messages and tags are lists of bytes.
use Rattle.std.specs.Prelude.{ℕ, zero, suc, ◌+◌, ◌-◌, ◌*◌, ◌/◌, ◌%◌, ◌^◌, List, [], ◌∷◌, ◌++◌, length, take, drop, replicate, bit_and}
use Rattle.octets.specs.Endian.{le, le_bytes}

-- The prime modulo which the accumulator is kept.
unfoldable pub prime : ℕ
prime = 2 ^ 130 - 5

-- The first half of the key: the top four bits of its bytes 3, 7, 11 and 15, and the lowest two of 4, 8 and 12, are cleared.
unfoldable pub clamp : ℕ → ℕ
clamp r = bit_and r 0x0ffffffc0ffffffc0ffffffc0fffffff

-- One block: read as a number with a byte 1 after it, added to the accumulator, and the sum multiplied by r.
unfoldable pub absorb : (r a : ℕ) (block : List ℕ) → ℕ
absorb r a block = ((a + le (block ++ 1 ∷ [])) * r) % prime

-- The first n blocks of a message, of 16 bytes each; the message's last may be shorter.
unfoldable pub absorb_all : (r a n : ℕ) (message : List ℕ) → ℕ
absorb_all r a zero message = a
absorb_all r a (suc n) message = absorb_all r (absorb r a (take 16 message)) n (drop 16 message)

-- How many blocks a message of n bytes has.
unfoldable pub blocks : ℕ → ℕ
blocks n = (n + 15) / 16

-- The 16 bytes of the tag: the accumulator, with the second half of the key added.
abbrev pub mac : (key message : List ℕ) → List ℕ
mac key message =
    le_bytes 16 (absorb_all (clamp (le (take 16 key))) 0 (blocks (length message)) message + le (take 16 (drop 16 key)))

-- A message with zeros after it, up to a whole number of blocks (section 2.8: pad16).
unfoldable pub padded : List ℕ → List ℕ
padded message = message ++ replicate (16 * blocks (length message) - length message) 0
