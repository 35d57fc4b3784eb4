use Rattle.std.proofs.Common.{arith}
use Rattle.poly1305.proofs.Blocks.{two_words}
use Rattle.poly1305.proofs.second_half.Goals as goal

pub returns : goal.returns
returns c = omega (arith, two_words c.args.key.now 16 24 (omega arith) (omega arith))
