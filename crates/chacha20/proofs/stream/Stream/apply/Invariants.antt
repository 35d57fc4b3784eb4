use Rattle.std.proofs.Common.{◌≡◌, ◌+◌, ◌*◌, ◌%◌, ◌^◌, ◌++◌, take, drop}
use Rattle.chacha20.specs.ChaCha20.{initial, encrypt}
use Rattle.chacha20.proofs.stream.Stream.apply.Given as goal

abbrev pub invariant-loop-i : goal.invariant-loop-i
invariant-loop-i l =
    (l.text ≡ encrypt l.key l.counter l.nonce (take (64 * l.i) l.initial.text) ++ drop (64 * l.i) l.initial.text)
    × (l.self.input ≡ initial l.key ((l.counter + l.i) % 2 ^ 32) l.nonce)
