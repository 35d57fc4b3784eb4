-- Why a line has no bytes for an answer.
use Rattle.fields.specs.declared.faults.Failure.{Failure}
use Rattle.fields.specs.declared.faults.Failure.TheVariants.{Refused, Memory}
use Rattle.fields.specs.declared.faults.Refusal.TheVariants.{Change}
use Rattle.change.specs.declared.failure.Failure as change
use Rattle.change.specs.declared.failure.Failure.TheVariants as changes
use Rattle.descent.specs.declared.failure.Failure as store
use Rattle.descent.specs.declared.failure.Failure.TheVariants as stores

-- Why a change was not made.
abbrev pub unmade : change.Failure → Failure
unmade (changes.Refused why) = Refused (Change why)
unmade changes.Memory = Memory

-- Why a call of a store has no answer. Devices in memory fail only where there is no memory.
abbrev pub unstored : store.Failure → Failure
unstored (stores.Refused why) = Refused (Change why)
unstored stores.Memory = Memory
unstored stores.Device = Memory
unstored stores.Stopped = Memory
