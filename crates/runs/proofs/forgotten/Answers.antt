use Rattle.runs.proofs.forgotten.Goals as goal
use Rattle.runs.proofs.Consequences.{forgotten, replaced, put_after_last_look}

pub returns : goal.returns
returns g c =
    let K = g.row.K.Denot in
    let C = g.row.C.Denot in
    record { out = forgotten K C; replaced = replaced K C; later = put_after_last_look K C }
