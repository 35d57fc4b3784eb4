use Rattle.std.proofs.Common.{◌<◌, length, is_some, ap, ◌∙◌, inl, inr, arith, below_more}
use Rattle.std.proofs.lemmas.Bool.{cases_lt}
use Rattle.change.specs.Nodes.{key_in}
use Rattle.change.proofs.Siblings.{held_here, held_elsewhere, held_past}
use Rattle.change.proofs.node.clear_all.Goals as goal

pub loop-node-preserved : goal.loop-node-preserved
loop-node-preserved c =
    below_more _ _
    (λ h l. ap is_some (held_elsewhere c.loop-node.nodes c.loop-node.node-index h c.clear.new.node (λ e. omega arith)) ∙ c.loop-node.invariant h l)
    (let l : c.loop-node.node-index < length c.loop-node.nodes = omega arith in ap is_some (held_here c.loop-node.nodes c.loop-node.node-index c.clear.new.node l ∙ ap key_in c.clear.ensures))

pub returns : goal.returns
returns c h =
    elim (cases_lt h (length c.loop-node.nodes)) [
      | inl l ↦ c.loop-node.invariant h (omega arith)
      | inr l ↦ ap is_some (held_past c.loop-node.nodes h l)
    ]
