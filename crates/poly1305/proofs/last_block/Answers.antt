use Rattle.std.proofs.Common.{◌≡◌, ◌*◌, ◌/◌, ◌%◌, length, drop, ap, ◌∙◌, arith}
use Rattle.std.proofs.lemmas.List.{length-drop}
use Rattle.poly1305.proofs.Blocks.{filled}
use Rattle.poly1305.proofs.last_block.Goals as goal

pub returns : goal.returns
returns c =
    let m = c.args.part.now in
    let n : length m / 16 * 16 ≡ 16 * (length m / 16) = omega arith in
    let e = c.copy_from_slice.ensures.after ∙ c.as_chunks.ensures.back ∙ ap (λ i. drop i m) n in
    let l : length (drop (16 * (length m / 16)) m) ≡ length m % 16 = simp length-drop (omega arith) in
    let k = c.as_chunks.ensures.back_len in
    filled _ _ _ _ _ c.args.end e l (omega arith) k k
