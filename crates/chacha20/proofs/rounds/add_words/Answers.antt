use Rattle.std.proofs.Common.{arith}
use Rattle.std.proofs.lemmas.List.{length-set}
use Rattle.chacha20.proofs.Places.{zip_more, zip_all}
use Rattle.chacha20.proofs.rounds.add_words.Goals as goal
use Rattle.chacha20.specs.ChaCha20.{plus}

pub loop-i-preserved : goal.loop-i-preserved
unfolding plus
loop-i-preserved c =
    let m = zip_more plus c.args.s.now c.args.input.now c.loop-i.s c.loop-i.i (omega arith) c.loop-i.invariant.0 c.loop-i.invariant.1 in
    (m.0, m.1, simp length-set c.loop-i.invariant.2)

pub returns : goal.returns
returns c =
    zip_all plus c.args.s.now c.args.input.now c.loop-i.s (omega arith) (omega arith) (λ k h. c.loop-i.invariant.0 k (omega arith))
