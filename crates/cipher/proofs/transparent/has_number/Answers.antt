use Rattle.std.proofs.Common.{◌≡◌, ◌-◌, length, take, drop, sym, arith, length-take-le}
use Rattle.std.proofs.lemmas.Slice.Eq.{slice_eq-Decides}
use Rattle.std.proofs.lemmas.Bool.Decides.{Decides-eqb}
use Rattle.cipher.proofs.transparent.has_number.Goals as goal

pub returns : goal.returns
returns c =
    let s = c.args.part.now in
    let own = take 16 c.args.key.now in
    let n : length own ≡ 16 = length-take-le 16 c.args.key.now (omega arith) in
    let d = rw n at (slice_eq-Decides Decides-eqb own (drop (length s - length own) s) c.ends_with.result c.ends_with.ensures.value) in
    (λ t. sym (d.0 t), λ e. d.1 (sym e))
