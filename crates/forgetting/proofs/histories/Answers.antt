use Rattle.forgetting.proofs.histories.Goals as goal
use Rattle.forgetting.proofs.Invariant.{keys-apart, under_later, reads_all}
use Rattle.forgetting.proofs.Places.{key_while_held, single-draws, single_sets}

pub returns : goal.returns
returns g c =
    let K = g.row.K.Denot in
    let C = g.row.C.Denot in
    record { held = key_while_held K C; apart = keys-apart K C; later = under_later K C; reads = reads_all K C; draws = single-draws K C; sets = single_sets K C }
