use Rattle.forgetting.proofs.loops.Goals as goal
use Rattle.forgetting.proofs.Climbing.{climbs}

pub returns : goal.returns
returns g c = climbs g.row.K.Denot g.row.C.Denot
