use Rattle.std.proofs.Common.{◌≡◌, ◌+◌, ◌*◌, ◌^◌, arith}
use Rattle.octets.specs.Endian.{le}
use Rattle.poly1305.specs.Limbs.{value}
use Rattle.poly1305.proofs.Blocks.{block_words}
use Rattle.poly1305.proofs.limbs.Limbs.absorb.Goals as goal

pub returns : goal.returns
returns c =
    let e : le c.args.block.now ≡ c.word_at.result + 2 ^ 64 * c.word_at-2.result = omega (arith, block_words c.args.block.now (omega arith)) in
    let t : value c.from_words-added.result ≡ le c.args.block.now + 2 ^ 104 * c.args.top = rw e c.from_words-added.ensures in
    rw (← t, ← c.plus.ensures) c.times.ensures
