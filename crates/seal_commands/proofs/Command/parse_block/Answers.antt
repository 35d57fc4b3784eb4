use Rattle.std.proofs.Common.{Ok, sym, ap, ◌∙◌, arith}
use Rattle.seal_commands.specs.Parsed.{task_of, block_of, block}
use Rattle.seal_commands.proofs.Steps.{reads, exits, three}
use Rattle.seal_commands.proofs.Command.parse_block.Goals as goal

pub returns-in_err-key : goal.returns-in_err-key
returns-in_err-key c =
    let whole = three c.args.fields.now _ (omega arith) block_of in
    exits task_of _ _ _ _ _ c.from_residual.ensures.1 whole c.in_err-key.ensures

pub returns-in_err-counter : goal.returns-in_err-counter
returns-in_err-counter c =
    let whole = three c.args.fields.now _ (omega arith) block_of in
    exits task_of _ _ _ _ _ c.from_residual-in_err-counter.ensures.1 (whole ∙ reads _ c.in_ok-key.ensures) c.in_err-counter.ensures

pub returns-in_err-nonce : goal.returns-in_err-nonce
returns-in_err-nonce c =
    let whole = three c.args.fields.now _ (omega arith) block_of in
    exits task_of _ _ _ _ _ c.from_residual-in_err-nonce.ensures.1 (whole ∙ reads _ c.in_ok-key.ensures ∙ reads _ c.in_ok-counter.ensures) c.in_err-nonce.ensures

pub returns : goal.returns
returns c =
    let whole = three c.args.fields.now _ (omega arith) block_of in
    whole ∙ reads _ c.in_ok-key.ensures ∙ reads _ c.in_ok-counter.ensures ∙ reads _ c.in_ok-nonce.ensures ∙ ap (λ k. Ok (block k c.in_ok-counter.counter c.in_ok-nonce.nonce.0)) (sym c.take.ensures.value)
