use Rattle.std.proofs.Common.{arith}
use Rattle.poly1305.specs.State.{accumulator, added}
use Rattle.poly1305.proofs.Blocks.{tag-bytes}
use Rattle.poly1305.proofs.state.Poly1305.tag.Goals as goal

pub returns : goal.returns
returns c =
    let s = c.args.self.now in
    tag-bytes c.to_le_bytes.result c.reduced.result _ (accumulator s) (added s) c.to_le_bytes.ensures c.reduced.ensures (omega arith)
