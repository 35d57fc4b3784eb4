use Rattle.std.proofs.Common.{Ok, sym, ap, ◌∙◌, arith}
use Rattle.seal_commands.specs.Parsed.{task_of, once_of, once}
use Rattle.seal_commands.proofs.Steps.{reads, exits, two}
use Rattle.seal_commands.proofs.Command.parse_once.Goals as goal

pub returns-in_err-key : goal.returns-in_err-key
returns-in_err-key c =
    let whole = two c.args.fields.now _ (omega arith) once_of in
    exits task_of _ _ _ _ _ c.from_residual.ensures.1 whole c.in_err-key.ensures

pub returns-in_err-nonce : goal.returns-in_err-nonce
returns-in_err-nonce c =
    let whole = two c.args.fields.now _ (omega arith) once_of in
    exits task_of _ _ _ _ _ c.from_residual-in_err-nonce.ensures.1 (whole ∙ reads _ c.in_ok-key.ensures) c.in_err-nonce.ensures

pub returns : goal.returns
returns c =
    let whole = two c.args.fields.now _ (omega arith) once_of in
    whole ∙ reads _ c.in_ok-key.ensures ∙ reads _ c.in_ok-nonce.ensures ∙ ap (λ k. Ok (once k c.in_ok-nonce.nonce.0)) (sym c.take.ensures.value)
