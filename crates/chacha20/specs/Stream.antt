-- What the code's working memory holds, and what encrypting comes to.
use Rattle.std.specs.Prelude.{◌≡◌, ℕ, ◌+◌, ◌%◌, ◌^◌, ◌<◌, ◌≤◌, List, length, replicate, Ok, Err, Result, slice_index, slice_set}
use Rattle.chacha20.specs.ChaCha20.{blocks, encrypt}
use Rattle.chacha20.specs.declared.stream.Stream.{Stream}

-- Nothing: every word and byte is zero.
abbrev pub idle : Stream
idle = record { input = replicate 16 0; state = replicate 16 0; block = replicate 64 0 }

-- The state that the next block begins from: the counter goes on by one.
abbrev pub advanced : List ℕ → List ℕ
advanced s = slice_set s 12 ((slice_index s 12 + 1) % 2 ^ 32)

-- Where the counter has room, the buffer holds the text under the key stream; else it is as it was.
abbrev pub Encrypts : {X E : Type 0} → (key : List ℕ) (counter : ℕ) (nonce text : List ℕ) → Result X E → (after : List ℕ) → Type 0
Encrypts key counter nonce text (Ok _) after = (counter + blocks (length text) ≤ 2 ^ 32) × (after ≡ encrypt key counter nonce text)
Encrypts key counter nonce text (Err _) after = (2 ^ 32 < counter + blocks (length text)) × (after ≡ text)
