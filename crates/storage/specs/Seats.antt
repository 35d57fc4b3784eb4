-- The chip in its seat, and how a change is made to last.
use Rattle.std.specs.Prelude.{◌≡◌, ℕ, ◌+◌, ◌<◌, ◌⊎◌, List, ◌∷◌, length, replicate, Some, None, Ok, Err, Option, Result}
use Rattle.sealing.specs.declared.key.Key.{Key}
use Rattle.forgetting.specs.Change.{Numbered}
use Rattle.change.specs.Nodes.{bytes_in}
use Rattle.index.specs.Noted.{Rows, scanned}
use Rattle.devices.specs.Events.{Event, appended, synced}
use Rattle.devices.specs.Given.{Given, given_now}
use Rattle.descent.specs.declared.failure.Failure.{Failure}
use Rattle.descent.specs.declared.failure.Failure.TheVariants.{Refused, Memory, Device, Stopped}
use Rattle.storage.specs.declared.seat.Condition.TheVariants.{Ready, Halted}
use Rattle.storage.specs.declared.seat.Seat.{Seat}

-- What a chip that can be used holds; none where a device failed in the middle of a change.
abbrev pub chip_in : {C : Type 0} → (holds : C → Numbered) → Seat C → Option Numbered
chip_in holds seat = elim seat.condition [ Ready ↦ Some (holds seat.chip) | Halted ↦ None ]

-- What the chip was given.
abbrev pub given_in : {C : Type 0} → (given : C → List Given) → Seat C → List Given
given_in given seat = given seat.chip

-- What writing records comes to: they are synced; or a device failed before that was answered.
abbrev pub Writes : {X : Type 0} → (records : List ℕ) (log : List Event) → Result X Failure → (log-after : List Event) → Type 0
Writes records log (Ok _) log-after = log-after ≡ synced ∷ (appended records ∷ log)
Writes records log (Err why) log-after = (why ≡ Stopped) × (log-after ≡ appended records ∷ log)

-- What giving the chip a key comes to: it holds that key and no other; or it failed, and can't be used any more; or it could not be used before, and nothing has changed.
abbrev pub Turns : {C X : Type 0} → (holds : C → Numbered) (given : C → List Given) → Given → (before : Seat C) → Result X Failure → (after : Seat C) → Type 0
Turns holds given new before (Ok _) after =
    (before.condition ≡ Ready) × (chip_in holds after ≡ Some new.key) × (given_in given after ≡ new ∷ given_in given before)
Turns holds given new before (Err why) after =
    (why ≡ Stopped) × (chip_in holds after ≡ None)
    × (((before.condition ≡ Ready) × (given_in given after ≡ new ∷ given_in given before)) ⊎ ((before.condition ≡ Halted) × (after ≡ before)))

-- THE ORDER OF A CHANGE: its records, then a sync, and only then the chip gets the root's new key.
pub record Lasts (records : List ℕ) (key : Numbered) (log : List Event) (given : List Given) (log-after : List Event) (given-after : List Given) : Type 0 where
  pub written : log-after ≡ synced ∷ (appended records ∷ log)
  pub turned : given-after ≡ given_now key.number key.bytes log-after ∷ given

-- A device failed on the way: before the sync was answered, when the chip was to get the key, or there was no chip that could be used.
abbrev pub Breaks : (records : List ℕ) (key : Numbered) (log : List Event) (given : List Given) (log-after : List Event) (given-after : List Given) → Type 0
Breaks records key log given log-after given-after =
    ((log-after ≡ appended records ∷ log) × (given-after ≡ given))
    ⊎ (((log-after ≡ synced ∷ (appended records ∷ log)) × (given-after ≡ given)) ⊎ Lasts records key log given log-after given-after)

-- What making a change last comes to.
abbrev pub Commits : {C X : Type 0} → (holds : C → Numbered) (given : C → List Given) (records : List ℕ) (key : Numbered) (log log-after : List Event) → Seat C → Result X Failure → Seat C → Type 0
Commits holds given records key log log-after before (Ok _) after =
    (chip_in holds after ≡ Some key) × Lasts records key log (given_in given before) log-after (given_in given after)
Commits holds given records key log log-after before (Err why) after =
    (why ≡ Stopped) × (chip_in holds after ≡ None) × Breaks records key log (given_in given before) log-after (given_in given after)

-- The state that a change changes: what was asked of the medium, the rows of the index, how many bytes the medium has, what the chip holds, what it was given, and the keys that were handed in.
pub record State : Type 0 where
  pub log : List Event
  pub rows : Rows
  pub end : ℕ
  pub chip : Option Numbered
  pub given : List Given
  pub keys : List Key

-- Every key that was handed in is zeros.
abbrev pub AllZeros : (before after : List Key) → Type 0
AllZeros before after = (j : ℕ) → j < length before → bytes_in after j ≡ replicate 32 0

-- The records of a change were made to last and noted.
pub record Ends (levels : ℕ) (records : List ℕ) (key : Numbered) (before after : State) : Type 0 where
  pub lasts : Lasts records key before.log before.given after.log after.given
  pub chip : after.chip ≡ Some key
  pub rows : after.rows ≡ scanned levels (length records) before.end records before.rows
  pub end : after.end ≡ before.end + length records
  pub wiped : AllZeros before.keys after.keys

-- A device failed on the way: the store has stopped, and the keys count as drawn.
pub record Halts (records : List ℕ) (key : Numbered) (before after : State) : Type 0 where
  pub breaks : Breaks records key before.log before.given after.log after.given
  pub chip : after.chip ≡ None
  pub rows : after.rows ≡ before.rows
  pub end : after.end ≡ before.end
  pub wiped : AllZeros before.keys after.keys

-- What ending a change comes to; a medium that is too long for it counts as one that failed, and nothing has changed.
abbrev pub Finishes : {X : Type 0} → (levels : ℕ) (records : List ℕ) (key : Numbered) (before : State) → Result X Failure → (after : State) → Type 0
Finishes levels records key before (Ok _) after = Ends levels records key before after
Finishes levels records key before (Err Stopped) after = Halts records key before after
Finishes levels records key before (Err Device) after = after ≡ before
Finishes levels records key before (Err Memory) after = ⊥
Finishes levels records key before (Err (Refused why)) after = ⊥
