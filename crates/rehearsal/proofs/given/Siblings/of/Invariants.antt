use Rattle.std.proofs.Common.{◌≡◌, ◌/◌, ◌^◌, ◌≤◌, map, vec_items, vec_len, vec_capacity}
use Rattle.change.specs.Nodes.{key_in}
use Rattle.rehearsal.specs.Siblings.{siblings_of}
use Rattle.rehearsal.proofs.given.Siblings.of.Given as goal

abbrev pub invariant-loop-h : goal.invariant-loop-h
invariant-loop-h l =
    (vec_len l.nodes ≡ l._h) × (l.fn.levels ≤ vec_capacity l.nodes) × (l.node.number ≡ l.fn.start.number / 2 ^ l._h)
    × (map key_in (vec_items l.nodes) ≡ siblings_of l.fn.start.number l.numbers.0 l._h)
