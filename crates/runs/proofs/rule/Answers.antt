use Rattle.runs.proofs.rule.Goals as goal
use Rattle.runs.proofs.Running.{rule}

pub returns : goal.returns
returns g c = rule g.row.K.Denot g.row.C.Denot
