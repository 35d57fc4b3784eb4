use Rattle.std.proofs.Common.{◌∙◌}
use Rattle.poly1305.proofs.limbs.Sum.times.Goals as goal
use Rattle.poly1305.proofs.Field.{products}

pub returns : goal.returns
returns c =
    c.carry.ensures
    ∙ products c.args.self.l0 c.args.self.l1 c.args.self.l2 c.args.self.l3 c.args.self.l4
    c.args.r.l0 c.args.r.l1 c.args.r.l2 c.args.r.l3 c.args.r.l4
    c.dot.result c.dot-2.result c.dot-3.result c.dot-4.result c.dot-5.result
    c.dot.ensures.value c.dot-2.ensures.value c.dot-3.ensures.value c.dot-4.ensures.value c.dot-5.ensures.value
