use Rattle.std.proofs.Common.{refl, ◌∙◌, arith}
use Rattle.chacha20.proofs.Laws.{written_more}
use Rattle.chacha20.proofs.stream.serialize_into.Goals as goal
use Rattle.chacha20.specs.ChaCha20.{serialize}

pub loop-i-init : goal.loop-i-init
unfolding serialize
loop-i-init c = (refl, c.told-out)

pub loop-i-preserved : goal.loop-i-preserved
loop-i-preserved c =
    let m = written_more c.args.words.now c.loop-i.out c.put_word.new.out c.loop-i.i (omega arith) (omega arith) c.put_word.ensures c.loop-i.invariant.0 in
    (m.0, m.1 ∙ c.loop-i.invariant.1)
