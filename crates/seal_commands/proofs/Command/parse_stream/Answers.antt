use Rattle.std.proofs.Common.{Ok, vec_items, sym, ap, ◌∙◌, arith}
use Rattle.seal_commands.specs.Parsed.{task_of, stream_of, stream}
use Rattle.seal_commands.proofs.Steps.{reads, exits, four}
use Rattle.seal_commands.proofs.Command.parse_stream.Goals as goal

pub returns-in_err-key : goal.returns-in_err-key
returns-in_err-key c =
    let whole = four c.args.fields.now _ (omega arith) stream_of in
    exits task_of _ _ _ _ _ c.from_residual.ensures.1 whole c.in_err-key.ensures

pub returns-in_err-counter : goal.returns-in_err-counter
returns-in_err-counter c =
    let whole = four c.args.fields.now _ (omega arith) stream_of in
    exits task_of _ _ _ _ _ c.from_residual-in_err-counter.ensures.1 (whole ∙ reads _ c.in_ok-key.ensures) c.in_err-counter.ensures

pub returns-in_err-nonce : goal.returns-in_err-nonce
returns-in_err-nonce c =
    let whole = four c.args.fields.now _ (omega arith) stream_of in
    exits task_of _ _ _ _ _ c.from_residual-in_err-nonce.ensures.1 (whole ∙ reads _ c.in_ok-key.ensures ∙ reads _ c.in_ok-counter.ensures) c.in_err-nonce.ensures

pub returns-in_err-content : goal.returns-in_err-content
returns-in_err-content c =
    let whole = four c.args.fields.now _ (omega arith) stream_of in
    exits task_of _ _ _ _ _ c.from_residual-in_err-content.ensures.1 (whole ∙ reads _ c.in_ok-key.ensures ∙ reads _ c.in_ok-counter.ensures ∙ reads _ c.in_ok-nonce.ensures) c.in_err-content.ensures

pub returns : goal.returns
returns c =
    let whole = four c.args.fields.now _ (omega arith) stream_of in
    whole ∙ reads _ c.in_ok-key.ensures ∙ reads _ c.in_ok-counter.ensures ∙ reads _ c.in_ok-nonce.ensures ∙ reads _ c.in_ok-content.ensures ∙ ap (λ k. Ok (stream k c.in_ok-counter.counter c.in_ok-nonce.nonce.0 (vec_items c.in_ok-content.content))) (sym c.take.ensures.value)
