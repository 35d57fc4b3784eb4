use Rattle.std.proofs.Common.{◌≡◌, ℕ, ◌+◌, ◌≤◌, true, List, length, take, drop, sym, ap, ◌∙◌, arith}
use Rattle.std.proofs.lemmas.Bool.Decides.{nat_tests}
use Rattle.std.proofs.lemmas.List.{drop-drop}
use Rattle.records.specs.Format.{content}
use Rattle.records.specs.Decode.{one, number2, number4, content_at}
use Rattle.records.specs.Values.{is_content}
use Rattle.records.proofs.decode.Levels.content.Goals as goal

-- A proper front, and as many bytes after it as are sealed.
content_is : (levels n m k : ℕ) (bs sealed rest : List ℕ) → number4 bs 1 ≡ n → number4 bs 5 ≡ m → number2 bs 9 ≡ k → is_content levels n m k ≡ true → 11 ≤ length bs → 27 + k ≤ length bs
    → sealed ≡ take (k + 16) (drop 11 bs) → rest ≡ drop (27 + k) bs → one (content n m sealed) rest ≡ content_at levels bs
content_is levels n m k bs sealed rest en em ek good l h s r = grind (arith, nat_tests)

pub returns-clause-value : goal.returns-clause-value
unfolding number2
returns-clause-value c =
    let bs = c.args.bytes.now in
    let k = c.from_be_bytes-count.result in
    let front = rw c.in_ok-after.ensures.ok_part at c.split_at_checked.ensures.cases in
    let parts = rw c.in_ok-sealed.ensures.ok_part at c.split_at_checked-2.ensures.cases in
    let whole : 11 + (k + 16) ≡ 27 + k = omega arith in
    let rest = parts.2 ∙ ap (drop (k + 16)) front.2 ∙ drop-drop (k + 16) 11 bs ∙ ap (λ n. drop n bs) whole in
    content_is c.args.self.count c.four-node.result c.four-number.result k bs c.in_ok-sealed.sealed.now c.in_ok-sealed.rest.now (sym c.four-node.ensures) (sym c.four-number.ensures) (sym c.from_be_bytes-count.ensures)
    (sym c.is_content.ensures ∙ c.if-not-is_content.false) front.0 (omega arith) (parts.1 ∙ ap (take (k + 16)) front.2) rest
