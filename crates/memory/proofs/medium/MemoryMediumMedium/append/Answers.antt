use Rattle.std.proofs.Common.{◌≡◌, ℕ, ◌++◌, take, is_ok, vec_items, ap, ◌∙◌, inl, rules}
use Rattle.std.proofs.lemmas.Bool.{both_ways, cond-true, cond-false}
use Rattle.memory.specs.Supplies.{is_on}
use Rattle.memory.proofs.Steps.{adds}
use Rattle.memory.proofs.Supplied.{supplied}
use Rattle.memory.proofs.medium.MemoryMediumMedium.append.Goals as goal

pub invariant_of-self : goal.invariant_of-self
invariant_of-self c =
    let s = c.args.self.now in
    let b = vec_items s.bytes in
    let b' = vec_items c.extend_from_slice.new.self in
    let f : b' ≡ b = c.extend_from_slice.ensures.items ∙ cond-false (is_ok c.extend_from_slice.result) _ _ (search rules) in
    let kept = adds (is_on s.power) (is_on c.fail.new.self) s.lasting 0 b b' c.args.bytes.now s.trace.asked c.appended.result.asked (s.faithful, (s.whole, (s.left, tt))) c.appended.ensures (inl f) (λ t. absurd (both_ways (is_on c.fail.new.self) (ap is_on c.fail.ensures) t)) in
    record { faithful = kept.0; whole = kept.1.0; left = kept.1.1.0 }

pub invariant_of-self-else-is_err : goal.invariant_of-self-else-is_err
invariant_of-self-else-is_err c =
    let s = c.args.self.now in
    let b = vec_items s.bytes in
    let b' = vec_items c.extend_from_slice.new.self in
    let more = c.args.bytes.now in
    let f : b' ≡ b ++ take c.bytes-count.result more = c.extend_from_slice.ensures.items ∙ (cond-true (is_ok c.extend_from_slice.result) _ _ (search rules) ∙ ap (λ (k : ℕ). b ++ take k more) (search rules)) in
    let w = supplied c.spend.result s.power c.spend.new.self c.bytes-count.result b b' more c.spend.ensures c.bytes-count.ensures f in
    let kept = adds (is_on s.power) (is_on c.spend.new.self) s.lasting c.bytes-count.result b b' more s.trace.asked c.appended.result.asked (s.faithful, (s.whole, (s.left, tt))) c.appended.ensures w.0 w.1 in
    record { faithful = kept.0; whole = kept.1.0; left = kept.1.1.0 }
