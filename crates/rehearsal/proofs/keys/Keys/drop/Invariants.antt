use Rattle.std.proofs.Common.{vec_len}
use Rattle.rehearsal.proofs.keys.Keys.drop.Given as goal

abbrev pub decreases-loop-key : goal.decreases-loop-key
decreases-loop-key l = vec_len l.keys
