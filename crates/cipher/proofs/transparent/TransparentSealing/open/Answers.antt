use Rattle.std.proofs.Common.{◌≡◌, true, false, length, take, sym, refl, ap, ◌∙◌, arith}
use Rattle.cipher.specs.Parts.{number-opens, number_shuts}
use Rattle.cipher.proofs.transparent.TransparentSealing.open.Goals as goal

pub returns-then-has_number-clause-value : goal.returns-then-has_number-clause-value
returns-then-has_number-clause-value c =
    let e = c.if-has_number.ensures.0 refl ∙ ap (take 16) c.as_bytes.ensures in
    let l : length c.args.key.now.bytes ≡ 32 = c.args.key.now.long in
    (number-opens c.args.key.now.bytes c.args.nonce.now.0 c.args.marked.now c.args.part.now l (omega arith) e, refl)

pub returns-else-has_number-clause-value : goal.returns-else-has_number-clause-value
returns-else-has_number-clause-value c =
    let l : length c.args.key.now.bytes ≡ 32 = c.args.key.now.long in (
      number_shuts c.args.key.now.bytes c.args.nonce.now.0 c.args.marked.now c.args.part.now l (omega arith)
          (λ e. let t : false ≡ true = c.if-has_number.ensures.1 (e ∙ sym (ap (take 16) c.as_bytes.ensures)) in cc),
      refl,
    )
