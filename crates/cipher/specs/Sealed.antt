-- Two ways of sealing: each gives the sealed text with its mark.
use Rattle.std.specs.Prelude.{◌≡◌, ℕ, ◌-◌, List, [], ◌∷◌, ◌++◌, length, take, drop, replicate, ◌≢◌, Ok, Err, Result}
use Rattle.sealing.specs.Aead.{ciphertext, tag}

-- By the standard.
unfoldable pub standard : (key nonce marked text : List ℕ) → List ℕ
standard key nonce marked text = ciphertext key nonce text ++ tag key nonce marked (ciphertext key nonce text)

-- Transparent, for keys that are numbers of 16 bytes, with zeros after them: the text as it is, and the number of the key.
unfoldable pub transparent : (key nonce marked text : List ℕ) → List ℕ
transparent key nonce marked text = text ++ take 16 key

-- The nonce of a slot: eleven zeros and the slot.
abbrev pub slot_nonce : ℕ → List ℕ
slot_nonce slot = replicate 11 0 ++ slot ∷ []

-- The text of a part, which its mark follows.
abbrev pub text_of : List ℕ → List ℕ
text_of part = take (length part - 16) part

-- What opening a part comes to: where it is a sealed text, that text stands in it, before the mark; else it is as it was.
abbrev pub Comes : {X E : Type 0} → (sealed : List ℕ → List ℕ) (part : List ℕ) → Result X E → (after : List ℕ) → Type 0
Comes sealed part (Ok _) after = (part ≡ sealed (text_of after)) × (drop (length part - 16) after ≡ drop (length part - 16) part)
Comes sealed part (Err _) after = ((text : List ℕ) → part ≢ sealed text) × (after ≡ part)
