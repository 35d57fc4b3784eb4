use Rattle.std.proofs.Common.{◌≡◌, ◌+◌, ◌*◌, ◌^◌, take, ap, ◌∙◌, arith}
use Rattle.octets.specs.Endian.{le}
use Rattle.poly1305.specs.Poly1305.{clamp}
use Rattle.poly1305.proofs.Blocks.{two_words}
use Rattle.poly1305.proofs.Field.{clamp_words}
use Rattle.poly1305.proofs.first_half.Goals as goal

pub returns : goal.returns
returns c =
    let key = c.args.key.now in
    let e : le (take 16 key) ≡ c.word_at.result + 2 ^ 64 * c.word_at-2.result = omega (arith, two_words key 0 8 (omega arith) (omega arith)) in
    omega (arith, ap clamp e ∙ clamp_words c.word_at.result c.word_at-2.result (omega arith))
