use Rattle.std.proofs.Common.{refl, arith}
use Rattle.octets.proofs.Laws.{le_front, le_end}
use Rattle.octets.proofs.U64Word.read.Goals as goal

pub returns : goal.returns
returns c =
    let s = c.args.bytes.now in
    omega (
      arith,
      le_front s 0 1 (omega arith) refl,
      le_front s 1 2 (omega arith) refl,
      le_front s 2 3 (omega arith) refl,
      le_front s 3 4 (omega arith) refl,
      le_front s 4 5 (omega arith) refl,
      le_front s 5 6 (omega arith) refl,
      le_front s 6 7 (omega arith) refl,
      le_front s 7 8 (omega arith) refl,
      le_end s 8 (omega arith),
    )
