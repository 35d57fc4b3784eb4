-- The nodes so far have no keys.
use Rattle.std.proofs.Common.{◌≡◌, ℕ, ◌<◌, false, is_some}
use Rattle.change.specs.Nodes.{sibling_in}
use Rattle.change.proofs.node.clear_all.Given as goal

abbrev pub invariant-loop-node : goal.invariant-loop-node
invariant-loop-node l = (h : ℕ) → h < l.node-index → is_some (sibling_in l.nodes h) ≡ false
