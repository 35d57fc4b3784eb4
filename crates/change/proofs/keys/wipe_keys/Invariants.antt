use Rattle.std.proofs.Common.{◌≡◌, ℕ, ◌<◌, replicate}
use Rattle.change.specs.Nodes.{bytes_in}
use Rattle.change.proofs.keys.wipe_keys.Given as goal

abbrev pub invariant-loop-key : goal.invariant-loop-key
invariant-loop-key l = (j : ℕ) → j < l.key-index → bytes_in l.keys j ≡ replicate 32 0
