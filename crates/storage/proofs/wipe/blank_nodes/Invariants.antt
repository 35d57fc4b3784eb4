-- So many nodes so far, none with a key.
use Rattle.std.proofs.Common.{◌≡◌, ◌≤◌, vec_items, vec_len, vec_capacity}
use Rattle.change.specs.Nodes.{Keyless}
use Rattle.storage.proofs.wipe.blank_nodes.Given as goal

abbrev pub invariant-loop-h : goal.invariant-loop-h
invariant-loop-h l = (vec_len l.nodes ≡ l._h) × (l.count ≤ vec_capacity l.nodes) × Keyless (vec_items l.nodes)
