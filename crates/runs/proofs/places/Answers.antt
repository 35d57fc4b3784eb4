use Rattle.runs.proofs.places.Goals as goal
use Rattle.runs.proofs.Running.{looks_from}
use Rattle.runs.proofs.Consequences.{held-at-places, one_place}

pub returns : goal.returns
returns g c =
    let K = g.row.K.Denot in
    let C = g.row.C.Denot in
    record { held = held-at-places K C; from = looks_from K C; one = one_place K C }
