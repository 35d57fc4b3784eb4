use Rattle.std.proofs.Common.{◌≡◌, ◌-◌, ◌%◌, arith}
use Rattle.chacha20.proofs.rounds.line_at.Goals as goal
use Rattle.chacha20.specs.ChaCha20.{line, rotl, plus}

pub returns : goal.returns
unfolding line rotl plus
returns c =
    let e : c.args.n % 32 ≡ c.args.n = omega arith in
    let f : (32 - c.args.n % 32) % 32 ≡ 32 - c.args.n = omega arith in
    cc
