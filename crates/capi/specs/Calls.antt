-- What the exported calls come to.
use Rattle.std.specs.Prelude.{◌≡◌, ℕ, Bool, true, false, List}
use Rattle.sealing.specs.Aead.{ciphertext, tag, Authentic}

-- True: the buffer holds the sealed text, and mark its mark. False: both are as they were.
abbrev pub Sealed : (key nonce marked text mark : List ℕ) → Bool → (text-after mark-after : List ℕ) → Type 0
Sealed key nonce marked text mark true text-after mark-after =
    (text-after ≡ ciphertext key nonce text) × (mark-after ≡ tag key nonce marked (ciphertext key nonce text))
Sealed key nonce marked text mark false text-after mark-after = (text-after ≡ text) × (mark-after ≡ mark)

-- True: the mark agrees, and the buffer holds the text. False: it is as it was.
abbrev pub Opened : (key nonce marked sealed mark : List ℕ) → Bool → (after : List ℕ) → Type 0
Opened key nonce marked sealed mark true after = Authentic key nonce marked sealed mark × (after ≡ ciphertext key nonce sealed)
Opened key nonce marked sealed mark false after = after ≡ sealed
