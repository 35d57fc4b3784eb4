use Rattle.std.proofs.Common.{◌≡◌, ℕ, ◌+◌, map, vec_items, vec_len, ap, ◌∙◌, subst, arith}
use Rattle.sealing.specs.declared.key.Key.{Key}
use Rattle.rehearsal.specs.Keys.{key_of, keys_after}
use Rattle.rehearsal.proofs.Drawing.{none_drawn, one_more}
use Rattle.rehearsal.proofs.keys.Keys.draw.Goals as goal

pub loop-number-init : goal.loop-number-init
loop-number-init c =
    let begun = c.in_ok-keys.ensures in
    let P : ℕ → Type 0 = λ n. map (λ (k : Key). k.bytes) (vec_items c.in_ok-keys.keys) ≡ keys_after c.args.last n in
    let z : 0 ≡ vec_len c.in_ok-keys.keys = omega arith in
    (omega arith, begun.capacity, subst P z (none_drawn c.args.last (vec_items c.in_ok-keys.keys) begun.items))

pub loop-number-preserved : goal.loop-number-preserved
loop-number-preserved c =
    let i = vec_len c.loop-number.keys in
    let e : c.loop-number.number ≡ c.args.last + 1 + i = omega arith in
    let z : i + 1 ≡ vec_len c.push_reserved.new.self = omega arith in
    let P : ℕ → Type 0 = λ n. map (λ (k : Key). k.bytes) (vec_items c.push_reserved.new.self) ≡ keys_after c.args.last n in (
      omega arith,
      omega arith,
      subst P z
          (ap (map (λ (k : Key). k.bytes)) c.push_reserved.ensures.items
          ∙ one_more c.args.last i (vec_items c.loop-number.keys) c.key_of.result c.loop-number.invariant.2 (c.key_of.ensures ∙ ap key_of e)),
    )
