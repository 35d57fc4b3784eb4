use Rattle.runs.proofs.always.Goals as goal
use Rattle.runs.proofs.Drawn.{keys-drawn}
use Rattle.runs.proofs.Consequences.{once, emptied, reads_all}

pub returns : goal.returns
returns g c =
    let K = g.row.K.Denot in
    let C = g.row.C.Denot in
    record { once = once K C; drawn = keys-drawn K C; emptied = emptied K C; reads = reads_all K C }
