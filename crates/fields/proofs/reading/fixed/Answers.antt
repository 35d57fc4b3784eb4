use Rattle.std.proofs.Common.{length, vec_items, Err, sym, refl, ap, ◌∙◌}
use Rattle.std.proofs.lemmas.Result.{err_from_is_err_and, MatchResult-at_ok}
use Rattle.fields.specs.declared.faults.Malformed.TheVariants.{Length}
use Rattle.fields.specs.Fields.{fixed_of, bytes_of, sized}
use Rattle.fields.proofs.Readings.{fails_too, was_ok, was_err, long_enough, another_length}
use Rattle.fields.proofs.reading.fixed.Goals as goal

pub returns-in_err-bytes : goal.returns-in_err-bytes
unfolding fixed_of
returns-in_err-bytes g c =
    let p = err_from_is_err_and c.from_residual.result c.from_residual.ensures.1 in
    rw (p.1, p.2) (fails_too c.in_err-bytes.field-0.0 (bytes_of c.args.field c.args.word.now) (fixed_of g.row.N c.args.field c.args.word.now) (sized g.row.N c.args.field) refl (λ _. refl) c.in_err-bytes.ensures)

pub returns-in_err-array : goal.returns-in_err-array
unfolding fixed_of
returns-in_err-array g c =
    let p = err_from_is_err_and c.from_residual-in_err-array.result c.from_residual-in_err-array.ensures.1 in
    let same = c.as_slice.ensures.value in
    let q = was_err (Length c.args.field g.row.N) c.try_from.result c.in_err-array.field-0.0 _ _ c.in_err-array.ensures c.try_from.ensures.1 in
    rw (p.1, p.2) (another_length g.row.N c.args.field (bytes_of c.args.field c.args.word.now) (vec_items c.in_ok-bytes.bytes) c.in_ok-bytes.ensures (λ long. q.0 (ap length same ∙ long)) ∙ ap Err (sym q.1))

pub returns : goal.returns
unfolding fixed_of
returns g c =
    let same = c.as_slice.ensures.value in
    let told = MatchResult-at_ok _ _ _ (was_ok (Length c.args.field g.row.N) c.try_from.result c.in_ok-array.array c.in_ok-array.ensures) c.try_from.ensures.1 in
    long_enough g.row.N c.args.field (bytes_of c.args.field c.args.word.now) (vec_items c.in_ok-bytes.bytes) c.in_ok-bytes.ensures c.in_ok-array.array (told.same ∙ same) (sym (ap length same) ∙ told.long)
