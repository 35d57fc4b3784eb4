use Rattle.runs.proofs.cases.Goals as goal
use Rattle.runs.proofs.Table.{cases}

pub returns : goal.returns
returns c = cases
