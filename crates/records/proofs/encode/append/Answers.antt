use Rattle.std.proofs.Common.{not, vec_items, sym, refl, ap, ◌∙◌}
use Rattle.std.proofs.lemmas.Slice.{pushed}
use Rattle.records.proofs.Laws.{append_undone, append-done}
use Rattle.records.proofs.encode.append.Goals as goal

pub returns-then-is_err : goal.returns-then-is_err
returns-then-is_err c =
    append_undone c.len-before.result
    (vec_items c.args.out.now)
    c.args.first.now
    c.args.second.now
    (pushed c.args.first.now refl c.in_ok-extend_from_slice.was c.extend_from_slice.ensures.items)
    (c.is_err.ensures.negation ∙ ap not c.if-is_err.true)
    c.extend_from_slice-done.ensures.items
    c.truncate.ensures.items
    (sym c.args.out.now.ok.0 ∙ sym c.len-before.ensures)

pub returns-else-is_err : goal.returns-else-is_err
returns-else-is_err c =
    append-done (vec_items c.args.out.now)
    c.args.first.now
    c.args.second.now
    (pushed c.args.first.now refl c.in_ok-extend_from_slice.was c.extend_from_slice.ensures.items)
    (c.is_err.ensures.negation ∙ ap not c.if-is_err.false)
    c.extend_from_slice-done.ensures.items
