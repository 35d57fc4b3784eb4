-- A chip in memory does as it was told.
use Rattle.std.specs.Prelude.{◌≡◌, Some, None, Ok, Err, Option, Result}
use Rattle.forgetting.specs.Change.{Numbered}
use Rattle.memory.specs.declared.chip.Leaves.{Leaves}
use Rattle.memory.specs.declared.chip.Leaves.TheVariants.{Old, New}

-- By what it was told: which of the two keys it holds then.
abbrev pub Told : {X E : Type 0} → Option Leaves → (old new : Numbered) → Result X E → (holds : Numbered) → Type 0
Told None old new (Ok _) holds = holds ≡ new
Told None old new (Err _) holds = ⊥
Told (Some Old) old new (Ok _) holds = ⊥
Told (Some Old) old new (Err _) holds = holds ≡ old
Told (Some New) old new (Ok _) holds = ⊥
Told (Some New) old new (Err _) holds = holds ≡ new
