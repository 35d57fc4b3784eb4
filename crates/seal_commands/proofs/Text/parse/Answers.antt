use Rattle.std.proofs.Common.{Ok, vec_items, sym, ap, ◌∙◌, arith}
use Rattle.seal_commands.specs.Parsed.{made, parts_of}
use Rattle.seal_commands.proofs.Steps.{reads, exits, four}
use Rattle.seal_commands.proofs.Text.parse.Goals as goal

pub returns-in_err-key : goal.returns-in_err-key
returns-in_err-key c = λ make.
    let whole = four c.args.fields.now _ (omega arith) (parts_of make c.args.called) in
    exits (made make) _ _ _ _ _ c.from_residual.ensures.1 whole c.in_err-key.ensures

pub returns-in_err-nonce : goal.returns-in_err-nonce
returns-in_err-nonce c = λ make.
    let whole = four c.args.fields.now _ (omega arith) (parts_of make c.args.called) in
    exits (made make) _ _ _ _ _ c.from_residual-in_err-nonce.ensures.1 (whole ∙ reads _ c.in_ok-key.ensures) c.in_err-nonce.ensures

pub returns-in_err-marked : goal.returns-in_err-marked
returns-in_err-marked c = λ make.
    let whole = four c.args.fields.now _ (omega arith) (parts_of make c.args.called) in
    exits (made make) _ _ _ _ _ c.from_residual-in_err-marked.ensures.1 (whole ∙ reads _ c.in_ok-key.ensures ∙ reads _ c.in_ok-nonce.ensures) c.in_err-marked.ensures

pub returns-in_err-text : goal.returns-in_err-text
returns-in_err-text c = λ make.
    let whole = four c.args.fields.now _ (omega arith) (parts_of make c.args.called) in
    exits (made make) _ _ _ _ _ c.from_residual-in_err-text.ensures.1 (whole ∙ reads _ c.in_ok-key.ensures ∙ reads _ c.in_ok-nonce.ensures ∙ reads _ c.in_ok-marked.ensures) c.in_err-text.ensures

pub returns : goal.returns
returns c = λ make.
    let whole = four c.args.fields.now _ (omega arith) (parts_of make c.args.called) in
    whole ∙ reads _ c.in_ok-key.ensures ∙ reads _ c.in_ok-nonce.ensures ∙ reads _ c.in_ok-marked.ensures ∙ reads _ c.in_ok-text.ensures ∙ ap (λ k. Ok (make k c.in_ok-nonce.nonce.0 (vec_items c.in_ok-marked.marked) (vec_items c.in_ok-text.text))) (sym c.take.ensures.value)
