use Rattle.std.proofs.Common.{◌%◌, ap, ◌∙◌, arith}
use Rattle.poly1305.specs.Poly1305.{prime}
use Rattle.poly1305.specs.Limbs.{value}
use Rattle.poly1305.specs.State.{accumulator, multiplier}
use Rattle.poly1305.proofs.Blocks.{part_whole, part_more}
use Rattle.poly1305.proofs.state.Poly1305.absorb_part.Goals as goal
use Rattle.poly1305.proofs.state.Poly1305.absorb_part.Goals.{then-part-ne0, else-part-ne0}

pub returns-clause-accumulator : goal.returns-clause-accumulator
returns-clause-accumulator c =
    let s = c.args.self.now in
    let m = c.args.part.now in
    let whole = c.absorb_whole-acc.ensures in
    elim c.if-part-ne0.branch [
      | then-part-ne0 w ↦
          ap (λ x. value x % prime) w.acc-is
          ∙ part_more (multiplier s) (accumulator s) (value c.absorb_whole-acc.result) (value w.absorb-acc.result) c.args.end c.args.top m w.last_block.result
          (omega arith) whole w.last_block.ensures w.absorb-acc.ensures
      | else-part-ne0 w ↦
          ap (λ x. value x % prime) w.acc-is
          ∙ part_whole (multiplier s) (accumulator s) (value c.absorb_whole-acc.result) c.args.end c.args.top m w.if-part-ne0.false whole
    ]
