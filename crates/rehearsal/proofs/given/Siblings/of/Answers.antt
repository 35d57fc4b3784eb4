use Rattle.std.proofs.Common.{ℕ, map, get_or, None, vec_items, sym, ap, ◌∙◌, div-one, arith}
use Rattle.tree.specs.Nodes.{sibling_of}
use Rattle.change.specs.Nodes.{key_in}
use Rattle.rehearsal.specs.Siblings.{keyed}
use Rattle.rehearsal.proofs.Recording.{no_sibling, one_sibling, half_more}
use Rattle.rehearsal.proofs.given.Siblings.of.Goals as goal

pub loop-h-init : goal.loop-h-init
loop-h-init c =
    let begun = c.in_ok-nodes.ensures in
    let start = c.args.start.number in
    (begun.len, begun.capacity, sym (div-one start), no_sibling start c.args.numbers.now.0 (vec_items c.in_ok-nodes.nodes) begun.items)

pub loop-h-preserved : goal.loop-h-preserved
loop-h-preserved c =
    let start = c.args.start.number in
    let way = c.loop-h.invariant.2 in (
      omega arith,
      omega arith,
      half_more start c.loop-h._h c.loop-h.node.number c.parent-node.result.number way c.parent-node.ensures,
      ap (map key_in) c.push_reserved.ensures.items
          ∙ one_sibling start c.loop-h._h c.args.numbers.now.0 (vec_items c.loop-h.nodes) c.node_of.result c.loop-h.invariant.3
          (c.node_of.ensures
          ∙ ap keyed (c.of.ensures ∙ ap (λ (n : ℕ). get_or c.args.numbers.now.0 n None) (c.sibling.ensures ∙ ap sibling_of way))),
    )
