use Rattle.std.proofs.Common.{ap}
use Rattle.rehearsal.specs.Siblings.{keyed}
use Rattle.rehearsal.proofs.given.node_of.Goals as goal

pub returns : goal.returns
returns c =
    let is = ap keyed c.in_ok-number.was in
    let key = c.key_of.ensures in cc
