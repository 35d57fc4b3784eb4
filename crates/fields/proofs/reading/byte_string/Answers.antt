use Rattle.std.proofs.Common.{vec_items, sym, ap, ◌∙◌}
use Rattle.std.specs.Option.{ok_or}
use Rattle.std.proofs.lemmas.Result.{err_from_is_err_and}
use Rattle.fields.specs.declared.faults.Malformed.TheVariants.{NotHex}
use Rattle.fields.specs.Fields.{bytes_of}
use Rattle.fields.proofs.Readings.{there, missing}
use Rattle.fields.proofs.reading.byte_string.Goals as goal

pub returns-in_err-ok_or : goal.returns-in_err-ok_or
unfolding bytes_of
returns-in_err-ok_or c =
    let p = err_from_is_err_and c.from_residual-in_err-ok_or.result c.from_residual-in_err-ok_or.ensures.1 in
    rw (p.1, p.2) (ap (λ o. ok_or o (NotHex c.args.field)) (sym c.in_ok-string_of.ensures) ∙ missing vec_items _ _ _ c.in_err-ok_or.ensures.value)

pub returns : goal.returns
unfolding bytes_of
returns c = ap (λ o. ok_or o (NotHex c.args.field)) (sym c.in_ok-string_of.ensures) ∙ there vec_items _ _ _ c.in_ok-ok_or.ensures.value
