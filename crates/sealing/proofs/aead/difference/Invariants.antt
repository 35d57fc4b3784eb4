use Rattle.std.proofs.Common.{◌≡◌, ℕ, ◌<◌, length, get_or}
use Rattle.sealing.proofs.aead.difference.Given as goal

abbrev pub invariant-loop-x : goal.invariant-loop-x
invariant-loop-x l =
    record {
      none : l.bits ≡ 0 → (k : ℕ) → k < length l.yielded → get_or l.a k 0 ≡ get_or l.b k 0;
      same : l.a ≡ l.b → l.bits ≡ 0;
    }
