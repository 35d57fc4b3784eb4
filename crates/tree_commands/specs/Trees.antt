-- What a change of a rehearsal comes to.
use Rattle.std.specs.Prelude.{◌≡◌, ℕ, ◌⊎◌, List, [], Ok, Err, None, replicate, Result, String}
use Rattle.std.specs.declared.alloc.Global.{Global}
use Rattle.fields.specs.declared.faults.Failure.{Failure}
use Rattle.fields.specs.declared.faults.Failure.TheVariants as fails
use Rattle.rehearsal.specs.declared.levels.Levels.{Levels}
use Rattle.rehearsal.specs.declared.state.Rehearsal.{Rehearsal}
use Rattle.rehearsal.specs.Changes.{Put, Taken}

-- A tree without keys.
abbrev pub Empty : Levels → Rehearsal → Type 0
Empty levels tree = (tree.levels ≡ levels) × (tree.last ≡ 0) × (tree.numbers.0 ≡ replicate 16 None) × (tree.bytes.items ≡ [])

-- What was told was done, and what was refused was not. Memory may fail before or after.
abbrev pub Told : (Done Same : Type 0) → Result (String Global) Failure → Type 0
Told Done Same (Ok text) = Done
Told Done Same (Err (fails.Malformed why)) = ⊥
Told Done Same (Err (fails.Refused why)) = Same
Told Done Same (Err fails.Memory) = Done ⊎ Same

-- A put, with the number of the root's new key.
abbrev pub PutTold : (place : ℕ) (content : List ℕ) → Rehearsal → Result (String Global) Failure → Rehearsal → Type 0
PutTold place content before r after = Told (Put place content before (Ok after.last) after) (after ≡ before) r

abbrev pub TakenTold : (place : ℕ) → Rehearsal → Result (String Global) Failure → Rehearsal → Type 0
TakenTold place before r after = Told (Taken place before (Ok after.last) after) (after ≡ before) r
