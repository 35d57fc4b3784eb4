-- Why a call has no answer.
use Rattle.change.specs.declared.failure.Failure.{Failure as Unwritten}
use Rattle.change.specs.declared.failure.Failure.TheVariants as unwritten_by
use Rattle.descent.specs.declared.failure.Failure.{Failure}
use Rattle.descent.specs.declared.failure.Failure.TheVariants.{Refused, Memory}

-- Because a change was not written.
abbrev pub unwritten : Unwritten → Failure
unwritten (unwritten_by.Refused why) = Refused why
unwritten unwritten_by.Memory = Memory
