use Rattle.std.proofs.Common.{Ok, vec_items, sym, ap, ◌∙◌, arith}
use Rattle.seal_commands.specs.Parsed.{task_of, mark_of, mark}
use Rattle.seal_commands.proofs.Steps.{reads, exits, two}
use Rattle.seal_commands.proofs.Command.parse_mark.Goals as goal

pub returns-in_err-once : goal.returns-in_err-once
returns-in_err-once c =
    let whole = two c.args.fields.now _ (omega arith) mark_of in
    exits task_of _ _ _ _ _ c.from_residual.ensures.1 whole c.in_err-once.ensures

pub returns-in_err-message : goal.returns-in_err-message
returns-in_err-message c =
    let whole = two c.args.fields.now _ (omega arith) mark_of in
    exits task_of _ _ _ _ _ c.from_residual-in_err-message.ensures.1 (whole ∙ reads _ c.in_ok-once.ensures) c.in_err-message.ensures

pub returns : goal.returns
returns c =
    let whole = two c.args.fields.now _ (omega arith) mark_of in
    whole ∙ reads _ c.in_ok-once.ensures ∙ reads _ c.in_ok-message.ensures ∙ ap (λ k. Ok (mark k (vec_items c.in_ok-message.message))) (sym c.take.ensures.value)
