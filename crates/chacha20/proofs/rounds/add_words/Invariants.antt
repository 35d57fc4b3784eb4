use Rattle.std.proofs.Common.{◌≡◌, ℕ, ◌<◌, ◌≤◌, length, get_or}
use Rattle.chacha20.specs.ChaCha20.{plus}
use Rattle.chacha20.proofs.rounds.add_words.Given as goal

abbrev pub invariant-loop-i : goal.invariant-loop-i
invariant-loop-i l =
    ((k : ℕ) → k < l.i → get_or l.s k 0 ≡ plus (get_or l.initial.s k 0) (get_or l.input k 0))
    × ((k : ℕ) → l.i ≤ k → get_or l.s k 0 ≡ get_or l.initial.s k 0)
    × (length l.s ≡ 16)
