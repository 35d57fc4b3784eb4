use Rattle.std.proofs.Common.{arith}
use lib.Bits.{bit_xor}
use Rattle.chacha20.proofs.Places.{zip_all}
use Rattle.chacha20.proofs.stream.xor_block.Goals as goal

pub returns : goal.returns
returns c =
    zip_all bit_xor c.args.part.now c.args.block.now c.loop-i.part (omega arith) (omega arith) (λ k h. c.loop-i.invariant.0 k (omega arith))
