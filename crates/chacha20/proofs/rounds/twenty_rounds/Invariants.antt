use Rattle.std.proofs.Common.{◌≡◌}
use Rattle.chacha20.specs.ChaCha20.{double_rounds}
use Rattle.chacha20.proofs.rounds.twenty_rounds.Given as goal

abbrev pub invariant-loop-i : goal.invariant-loop-i
invariant-loop-i l = l.s ≡ double_rounds l._i l.initial.s
