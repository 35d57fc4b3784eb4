use Rattle.std.proofs.Common.{arith}
use Rattle.poly1305.proofs.limbs.Limbs.from_words.Goals as goal
use Rattle.poly1305.proofs.Field.{low26, middle}
use Rattle.poly1305.specs.Limbs.{number}

pub returns : goal.returns
unfolding number
returns c = rw (middle c.args.lo c.args.hi (omega arith)) (simp low26 (omega arith))
