use Rattle.std.proofs.Common.{vec_len}
use Rattle.session.proofs.chance.empty.Given as goal

abbrev pub decreases-loop-key : goal.decreases-loop-key
decreases-loop-key l = vec_len l.keys
