use Rattle.std.proofs.Common.{◌≡◌, ◌/◌, ◌^◌, ◌++◌, vec_items}
use Rattle.change.specs.Turns.{turns_bytes}
use Rattle.change.proofs.climb.climb.Given as goal

abbrev pub invariant-loop-h : goal.invariant-loop-h
invariant-loop-h g l =
    (l.node.number ≡ l.initial.node.number / 2 ^ l.h)
    × (vec_items l.out ≡ vec_items l.initial.out ++ turns_bytes g.S.Sealing.sealed l.initial.node.number l.first l.drawn.last l.drawn.keys.now l.path.siblings.now l.h)
