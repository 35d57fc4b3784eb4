use Rattle.std.proofs.Common.{◌+◌, ◌/◌, length, drop, None, vec_items, rules, sym, ap, ◌∙◌}
use Rattle.hex_text.proofs.Laws.{ahead, ahead_nothing, ahead_more, paired, in_pairs, odd_none, next_pair, last_pair}
use Rattle.hex_text.proofs.decode.Goals as goal

pub returns-then-not-is_empty : goal.returns-then-not-is_empty
returns-then-not-is_empty c =
    let text = c.args.text.now in
    sym (odd_none (length text / 2) text (search rules))

pub loop-high-init : goal.loop-high-init
loop-high-init c =
    let text = c.args.text.now in
    ap (λ l. ahead l (paired c.as_chunks.result.0.now)) c.in_ok-bytes.ensures.items
    ∙ ahead_nothing (paired c.as_chunks.result.0.now)
    ∙ ap paired c.as_chunks.ensures.front
    ∙ sym (in_pairs (length text / 2) text (search rules))

pub returns-in_default : goal.returns-in_default
returns-in_default c = next_pair c.as_chunks.result.0.now c.loop-high.high-index (vec_items c.loop-high.bytes) None _ c.loop-high-test.true (search rules) c.loop-high.invariant

pub loop-high-preserved : goal.loop-high-preserved
loop-high-preserved c =
    let pairs = c.as_chunks.result.0.now in
    let i = c.loop-high.high-index in
    ap (λ l. ahead l (paired (drop (i + 1) pairs))) c.in_ok-push.ensures.items
    ∙ ahead_more (vec_items c.loop-high.bytes) c.in-Some.byte (paired (drop (i + 1) pairs))
    ∙ next_pair pairs i (vec_items c.loop-high.bytes) _ _ c.loop-high-test.true c.in-Some.ensures c.loop-high.invariant

pub returns : goal.returns
returns c = last_pair c.as_chunks.result.0.now c.loop-high.high-index (vec_items c.loop-high.bytes) _ c.loop-high-test.false c.loop-high.invariant
