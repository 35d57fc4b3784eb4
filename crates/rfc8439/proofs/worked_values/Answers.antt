use Rattle.rfc8439.proofs.Values.{values}
use Rattle.rfc8439.proofs.worked_values.Goals as goal

pub returns : goal.returns
returns c = values
