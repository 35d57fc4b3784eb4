use Rattle.std.proofs.Common.{ℕ, ◌/◌, List, [], length, get_or, refl, ap, arith}
use Rattle.poly1305.specs.Poly1305.{absorb_all}
use Rattle.poly1305.specs.Limbs.{value}
use Rattle.poly1305.proofs.Blocks.{one_more}
use Rattle.poly1305.proofs.absorb_whole.Goals as goal

pub loop-block-init : goal.loop-block-init
unfolding absorb_all
loop-block-init c = refl

pub loop-block-preserved : goal.loop-block-preserved
loop-block-preserved c =
    let m = c.args.part.now in
    let i = c.loop-block.block-index in
    one_more (value c.args.r) _ (value c.loop-block.acc) (value c.absorb-acc.result) i (length m / 16) m _ (omega arith) (omega arith)
    (ap (λ (l : List (List ℕ)). get_or l i []) c.as_chunks.ensures.front) c.loop-block.invariant c.absorb-acc.ensures
