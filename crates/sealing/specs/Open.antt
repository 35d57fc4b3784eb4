-- What opening comes to.
use Rattle.std.specs.Prelude.{◌≡◌, ℕ, List, Ok, Err, Result}
use Rattle.sealing.specs.Aead.{Authentic, ciphertext}

-- The buffer holds the text where the mark agrees, and is as it was where it doesn't.
abbrev pub Comes : {X E : Type 0} → (key nonce marked sealed mark : List ℕ) → Result X E → (after : List ℕ) → Type 0
Comes key nonce marked sealed mark (Ok _) after =
    Authentic key nonce marked sealed mark × (after ≡ ciphertext key nonce sealed)
Comes key nonce marked sealed mark (Err _) after = (Authentic key nonce marked sealed mark → ⊥) × (after ≡ sealed)
