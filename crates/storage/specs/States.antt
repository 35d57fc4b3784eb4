-- The state of a store, and of the keys that were handed in.
use Rattle.std.specs.Prelude.{List}
use Rattle.sealing.specs.declared.key.Key.{Key}
use Rattle.forgetting.specs.Change.{Numbered}
use Rattle.index.specs.Noted.{rows_of}
use Rattle.devices.specs.Events.{Event}
use Rattle.devices.specs.Given.{Given}
use Rattle.storage.specs.declared.state.Store.{Store}
use Rattle.storage.specs.Seats.{State, chip_in, given_in}

-- By what its medium was asked, what its chip holds, and what that was given.
abbrev pub state_of : {S M C : Type 0} → (log : M → List Event) (holds : C → Numbered) (given : C → List Given) → Store S M C → List Key → State
state_of log holds given store keys =
    record { log = log store.source.medium; rows = rows_of store.index; end = store.end; chip = chip_in holds store.seat; given = given_in given store.seat; keys = keys }
