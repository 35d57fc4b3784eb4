use Rattle.std.proofs.Common.{◌∙◌}
use Rattle.poly1305.specs.State.{accumulator, multiplier}
use Rattle.poly1305.proofs.Blocks.{last_padded}
use Rattle.poly1305.proofs.state.Poly1305.absorb_padded.Goals as goal

pub returns-clause-accumulator : goal.returns-clause-accumulator
returns-clause-accumulator c =
    let s = c.args.self.now in
    c.absorb_part.ensures.accumulator ∙ last_padded (multiplier s) (accumulator s) c.args.part.now
