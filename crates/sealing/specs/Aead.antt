-- ChaCha20 and Poly1305 together, as RFC 8439 sections 2.6 and 2.8 have them. Keys, nonces, texts and tags are lists of bytes.
use Rattle.std.specs.Prelude.{◌≡◌, ℕ, ◌-◌, ◌*◌, ◌^◌, ◌<◌, ◌≤◌, List, ◌++◌, length, take, Ok, Err, Result}
use Rattle.octets.specs.Endian.{le_bytes}
use Rattle.chacha20.specs.ChaCha20.{block, encrypt}
use Rattle.poly1305.specs.Poly1305.{mac, padded}
use Rattle.sealing.specs.declared.opening.Mark.{Mark}

-- 2.6 The one-time key of the mark: the first half of the block at counter 0.
abbrev pub one_time_key : (key nonce : List ℕ) → List ℕ
one_time_key key nonce = take 32 (block key 0 nonce)

-- 2.8 The sealed text: the text under the key stream from counter 1 on.
unfoldable pub ciphertext : (key nonce text : List ℕ) → List ℕ
ciphertext key nonce text = encrypt key 1 nonce text

-- What the mark is made of: what is marked besides and the sealed text, each filled up with zeros, and their two lengths.
unfoldable pub mac_data : (marked sealed : List ℕ) → List ℕ
mac_data marked sealed = padded marked ++ (padded sealed ++ (le_bytes 8 (length marked) ++ le_bytes 8 (length sealed)))

-- The mark.
unfoldable pub tag : (key nonce marked sealed : List ℕ) → List ℕ
tag key nonce marked sealed = mac (one_time_key key nonce) (mac_data marked sealed)

-- The longest text: the counter begins at 1 and has 32 bits.
unfoldable pub longest : ℕ
longest = 64 * (2 ^ 32 - 1)

-- A sealed text opens: it is no longer than the standard allows, and has its mark.
pub record Authentic (key nonce marked sealed mark : List ℕ) : Type 0 where
  pub fits : length sealed ≤ longest
  pub agrees : mark ≡ tag key nonce marked sealed

-- A text put under the key stream, or taken from under it: refused where it is too long, and then as it was.
abbrev pub Applies : {X E : Type 0} → (key nonce text : List ℕ) → Result X E → (after : List ℕ) → Type 0
Applies key nonce text (Ok _) after = (length text ≤ longest) × (after ≡ ciphertext key nonce text)
Applies key nonce text (Err _) after = (longest < length text) × (after ≡ text)

-- What sealing comes to: the sealed text in the buffer and its mark, or a refusal.
abbrev pub Seals : {E : Type 0} → (key nonce marked text : List ℕ) → Result Mark E → (after : List ℕ) → Type 0
Seals key nonce marked text (Ok mark) after =
    (length text ≤ longest) × (after ≡ ciphertext key nonce text) × (mark.0 ≡ tag key nonce marked (ciphertext key nonce text))
Seals key nonce marked text (Err _) after = (longest < length text) × (after ≡ text)

-- What was sealed opens, to what it was.
pub record Opens (key nonce marked text : List ℕ) : Type 0 where
  pub authentic : Authentic key nonce marked (ciphertext key nonce text) (tag key nonce marked (ciphertext key nonce text))
  pub text_again : ciphertext key nonce (ciphertext key nonce text) ≡ text

abbrev pub RoundTrip : Type 0
RoundTrip = (key nonce marked text : List ℕ) → length text ≤ longest → Opens key nonce marked text
