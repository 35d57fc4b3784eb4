use Rattle.std.proofs.Common.{vec_items, vec_len}
use Rattle.change.specs.Nodes.{Keyless}
use Rattle.change.proofs.node.let_go.Given as goal

abbrev pub invariant-loop : goal.invariant-loop
invariant-loop l = Keyless (vec_items l.nodes)

abbrev pub decreases-loop : goal.decreases-loop
decreases-loop l = vec_len l.nodes
