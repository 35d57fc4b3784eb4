use Rattle.std.proofs.Common.{◌≡◌, ◌-◌, length, take, drop, sym, ap, ◌∙◌, rules, tests}
use Rattle.std.specs.List.{position}
use Rattle.std.specs.Option.{unwrap_or}
use Rattle.std.proofs.lemmas.Iterator.{YieldsList-from_slice}
use Rattle.std.proofs.lemmas.Iterator.Search.{position_from_yields_List}
use Rattle.std.proofs.lemmas.List.{take_rest}
use Rattle.words.specs.Words.{blank}
use Rattle.words.proofs.Splits.{inked, none, found, shorter}
use Rattle.words.proofs.next_word.Goals as goal

pub returns-in_err-start-clause-words : goal.returns-in_err-start-clause-words
returns-in_err-start-clause-words c =
    let text = c.args.text.now in
    let at : c.position.result ≡ position inked text = position_from_yields_List inked _ _ c.position.result c.position.ensures.ran (YieldsList-from_slice text cc) (λ x b q k. search (rules, tests)) in
    rw c.from_residual.ensures (none text (sym at ∙ c.in_err-start.was))

pub returns : goal.returns
returns c =
    let text = c.args.text.now in
    let start = c.in_ok-start.start in
    let from = take (length text - start) (drop start text) in
    let end = c.unwrap_or-end.result in
    let at : c.position.result ≡ position inked text = position_from_yields_List inked _ _ c.position.result c.position.ensures.ran (YieldsList-from_slice text cc) (λ x b q k. search (rules, tests)) in
    let stop : c.position-2.result ≡ position blank from = position_from_yields_List blank _ _ c.position-2.result c.position-2.ensures.ran (YieldsList-from_slice from cc) (λ x b q k. search (rules, tests)) in
    let begins = sym at ∙ c.in_ok-start.was in
    let ends = c.unwrap_or-end.ensures ∙ ap (λ o. unwrap_or o (length from)) stop in
    record {
      words = rw (c.split_at.ensures.front, c.split_at.ensures.back) (found text from start end begins (take_rest text start) ends);
      shorter = rw c.split_at.ensures.back (shorter text from start end begins (take_rest text start) ends);
    }
