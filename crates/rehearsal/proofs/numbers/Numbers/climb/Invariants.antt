use Rattle.std.proofs.Common.{◌≡◌, ◌+◌, ◌-◌, ◌<◌}
use Rattle.rehearsal.specs.Numbers.{climbed}
use Rattle.rehearsal.proofs.numbers.Numbers.climb.Given as goal

abbrev pub invariant-loop-before : goal.invariant-loop-before
invariant-loop-before l =
    (l.node.number < 16) × (climbed l.levels l.initial.node.number l.last l.initial.self.0 ≡ climbed (l.last + l.levels - l.before) l.node.number l.before l.self.0)
