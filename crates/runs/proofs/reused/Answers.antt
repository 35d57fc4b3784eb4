use Rattle.runs.proofs.reused.Goals as goal
use Rattle.runs.proofs.Table.{reused}

pub returns : goal.returns
returns c = reused
