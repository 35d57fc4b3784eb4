use Rattle.std.proofs.Common.{◌≡◌, ℕ, ◌+◌, ◌-◌, ◌*◌, get_or, ◌∙◌, arith}
use Rattle.words.proofs.Digits.{stops, goes, overflows, ends}
use Rattle.words.proofs.numbers.counter.Goals as goal

pub returns-then-not-is_ascii_digit : goal.returns-then-not-is_ascii_digit
returns-then-not-is_ascii_digit c =
    stops c.args.text.now c.loop-letter.letter-index c.loop-letter.number _ c.loop-letter-test.true c.loop-letter.invariant.1 c.if-not-is_ascii_digit.ensures.value

pub returns-in_err-checked_mul : goal.returns-in_err-checked_mul
returns-in_err-checked_mul c =
    c.from_residual.ensures
    ∙ overflows c.args.text.now c.loop-letter.letter-index c.loop-letter.number _ c.loop-letter-test.true c.loop-letter.invariant.1 c.if-not-is_ascii_digit.ensures.value (omega (arith, c.in_err-checked_mul.ensures))

pub returns-in_err-number : goal.returns-in_err-number
returns-in_err-number c =
    c.from_residual-in_err-number.ensures
    ∙ overflows c.args.text.now c.loop-letter.letter-index c.loop-letter.number _ c.loop-letter-test.true c.loop-letter.invariant.1 c.if-not-is_ascii_digit.ensures.value (omega (arith, c.in_ok-checked_mul.ensures, c.in_err-number.ensures))

pub loop-letter-preserved : goal.loop-letter-preserved
loop-letter-preserved c =
    let text = c.args.text.now in
    let i : ℕ = c.loop-letter.letter-index in
    let is : c.in_ok-number.number ≡ c.loop-letter.number * 10 + (get_or text i 0 - 48) = omega (arith, c.in_ok-checked_mul.ensures, c.in_ok-number.ensures) in
    (omega (arith, c.in_ok-number.ensures), rw is (goes text i c.loop-letter.number _ c.loop-letter-test.true c.loop-letter.invariant.1 c.if-not-is_ascii_digit.ensures.value))

pub returns : goal.returns
returns c =
    ends c.args.text.now c.loop-letter.letter-index c.loop-letter.number _ c.loop-letter-test.false (omega arith) c.loop-letter.invariant.1
