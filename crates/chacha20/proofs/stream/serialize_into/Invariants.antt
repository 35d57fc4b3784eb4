use Rattle.std.proofs.Common.{◌≡◌, ◌*◌, length, take}
use Rattle.chacha20.specs.ChaCha20.{serialize}
use Rattle.chacha20.proofs.stream.serialize_into.Given as goal

abbrev pub invariant-loop-i : goal.invariant-loop-i
invariant-loop-i l = (take (4 * l.i) l.out ≡ serialize (take l.i l.words)) × (length l.out ≡ 64)
