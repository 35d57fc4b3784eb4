use Rattle.std.proofs.lemmas.Result.{err_from_is_err_and}
use Rattle.fields.specs.Fields.{number_of}
use Rattle.fields.proofs.reading.number.Goals as goal

pub returns-in_err-ok_or : goal.returns-in_err-ok_or
unfolding number_of
returns-in_err-ok_or c =
    let p = err_from_is_err_and c.from_residual.result c.from_residual.ensures.1 in
    rw (p.1, p.2) (cc (c.in_err-ok_or.ensures.value, c.counter.ensures))

pub returns : goal.returns
unfolding number_of
returns c = cc (c.in_ok-ok_or.ensures.value, c.counter.ensures)
