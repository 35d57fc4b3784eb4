use Rattle.std.proofs.Common.{◌≡◌, ◌+◌, length, ap, ◌∙◌, arith}
use Rattle.records.proofs.Laws.{two_parts}
use Rattle.records.proofs.encode.write_front.Goals as goal

pub returns : goal.returns
returns c =
    let a = c.copy_from_slice.new.self in
    let b = c.copy_from_slice-2.new.self in
    let la : length a ≡ 9 = ap length c.copy_from_slice.ensures.after ∙ c.told-start in
    let t = two_parts c.args.out.now a b 9 (9 + length c.args.number.now) la (omega arith) in
    cc (t, c.copy_from_slice.ensures.after, c.copy_from_slice-2.ensures.after)
