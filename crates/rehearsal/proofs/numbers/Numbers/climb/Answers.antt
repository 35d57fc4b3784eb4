use Rattle.std.proofs.Common.{◌≡◌, ◌+◌, ◌-◌, arith}
use Rattle.rehearsal.proofs.Climbing.{climbed_more, climbed-done}
use Rattle.rehearsal.proofs.numbers.Numbers.climb.Goals as goal

pub loop-before-preserved : goal.loop-before-preserved
loop-before-preserved c =
    let more = climbed_more (c.args.last + c.args.levels) c.loop-before.before c.loop-before.node.number c.loop-before.self.0 (omega arith) in
    (omega arith, cc more)

pub returns : goal.returns
returns c =
    let e : c.args.last + c.args.levels - c.loop-before.before ≡ 0 = omega arith in
    let done = climbed-done c.loop-before.node.number c.loop-before.before c.loop-before.self.0 in
    cc (e, done, c.loop-before.invariant.1)
