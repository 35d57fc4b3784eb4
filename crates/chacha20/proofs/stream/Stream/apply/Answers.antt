use Rattle.std.proofs.Common.{◌≡◌, ℕ, ◌+◌, ◌-◌, ◌*◌, ◌%◌, ◌^◌, ◌≤◌, min, ◌⊎◌, length, ap, ◌∙◌, inl, inr, arith}
use Rattle.std.proofs.lemmas.Bool.{cases_lt}
use Rattle.chacha20.proofs.Laws.{encrypt_more, encrypt_none, advance}
use Rattle.chacha20.specs.ChaCha20.{initial, output}
use Rattle.chacha20.specs.Stream.{advanced}
use Rattle.chacha20.proofs.stream.Stream.apply.Goals as goal

pub loop-i-init : goal.loop-i-init
loop-i-init c =
    let n : (c.args.counter + 0) % 2 ^ 32 ≡ c.args.counter = omega arith in
    (rw (encrypt_none c.args.key.now c.args.counter c.args.nonce.now), rw n c.initial_state-self.ensures)

-- What is left of the text after this part, if any.
last_or_whole : (n len end : ℕ) → end ≡ min (n + 64) len → n ≤ len → (end - n ≡ 64) ⊎ (n + (end - n) ≡ len)
last_or_whole n len end e h = elim (cases_lt len (n + 64)) [ inl l ↦ inr (omega arith) | inr g ↦ inl (omega arith) ]

pub loop-i-preserved : goal.loop-i-preserved
loop-i-preserved c =
    let key = c.args.key.now in
    let nonce = c.args.nonce.now in
    let i = c.loop-i.i in
    let m : (c.args.counter + c.loop-i.i) % 2 ^ 32 ≡ c.args.counter + c.loop-i.i = omega arith in
    let next : ((c.args.counter + c.loop-i.i) % 2 ^ 32 + 1) % 2 ^ 32 ≡ (c.args.counter + (c.loop-i.i + 1)) % 2 ^ 32 = omega arith in
    let b = c.next_block.ensures.block ∙ ap output (c.loop-i.invariant.1 ∙ ap (λ n. initial c.args.key.now n c.args.nonce.now) m) in (
      encrypt_more c.args.key.now c.args.counter c.args.nonce.now c.args.text.now c.loop-i.text c.xor_block.new.part c.loop-i.i (c.min-end.result - 64 * c.loop-i.i)
          c.loop-i.invariant.0 (omega arith) (omega arith) (omega arith)
          (last_or_whole (64 * c.loop-i.i) (length c.args.text.now) c.min-end.result c.min-end.ensures (omega arith))
          (rw b at c.xor_block.ensures),
      c.next_block.ensures.input ∙ ap advanced c.loop-i.invariant.1 ∙ advance c.args.key.now ((c.args.counter + c.loop-i.i) % 2 ^ 32) c.args.nonce.now ∙ ap (λ n. initial c.args.key.now n c.args.nonce.now) next,
    )
