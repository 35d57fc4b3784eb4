use Rattle.forgetting.proofs.lawful.Goals as goal
use Rattle.forgetting.proofs.Changes.{change_lawful}

pub returns : goal.returns
returns g c = change_lawful g.row.K.Denot g.row.C.Denot
