-- What a chip was given.
use Rattle.std.specs.Prelude.{◌≡◌, ℕ, ◌⊎◌, List, ◌∷◌, length, Ok, Err, Result}
use Rattle.forgetting.specs.Change.{Numbered}
use Rattle.devices.specs.Events.{Event, changes}

-- A key with its number, and when: how many changes had been asked of the medium before.
pub record Given : Type 0 where
  pub key : Numbered
  pub after : ℕ

-- A key given now, beside a medium with that log.
abbrev pub given_now : (number : ℕ) (bytes : List ℕ) → List Event → Given
given_now number bytes log = record { key = record { number = number; bytes = bytes }; after = length (changes log) }

-- WHAT GIVING A CHIP A KEY COMES TO. Done: it holds the new key and no other. Failed: the old one or the new one, never both, nor any other. Either way it was asked once more.
abbrev pub Gives : {C X E : Type 0} → (holds : C → Numbered) (given : C → List Given) (before : C) → Given → Result X E → (after : C) → Type 0
Gives holds given before new (Ok _) after = (holds after ≡ new.key) × (given after ≡ new ∷ given before)
Gives holds given before new (Err _) after =
    ((holds after ≡ holds before) ⊎ (holds after ≡ new.key)) × (given after ≡ new ∷ given before)
