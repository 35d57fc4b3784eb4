use Rattle.std.proofs.Common.{rules}
use Rattle.poly1305.proofs.limbs.Limbs.carry.Goals as goal
use Rattle.poly1305.proofs.Field.{carry_keeps}

pub returns : goal.returns
returns c = search (rules, carry_keeps)
