use Rattle.runs.proofs.cuts.Goals as goal
use Rattle.runs.proofs.Past.{of_history}
use Rattle.runs.proofs.Consequences.{before_or_after, answered_stays, finishes}

pub returns : goal.returns
returns g c =
    let K = g.row.K.Denot in
    let C = g.row.C.Denot in
    record { either = before_or_after K C; stays = answered_stays K C; history = of_history K C; finishes = finishes K C }
