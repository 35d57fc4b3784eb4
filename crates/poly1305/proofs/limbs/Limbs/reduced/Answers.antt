use Rattle.std.proofs.Common.{arith}
use Rattle.poly1305.proofs.limbs.Limbs.reduced.Goals as goal
use Rattle.poly1305.proofs.Field.{low_bits}
use Rattle.poly1305.specs.Limbs.{number}

pub returns : goal.returns
unfolding number
returns c = low_bits c.args.self.l0 c.args.self.l1 c.args.self.l2 c.args.self.l3 c.args.self.l4 (omega arith)
