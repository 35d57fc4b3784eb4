use Rattle.std.proofs.Common.{length}
use Rattle.rehearsal.proofs.readable.WrittenDisplay.fmt.Given as goal

abbrev pub decreases-loop-record : goal.decreases-loop-record
decreases-loop-record g l = length l.rest
