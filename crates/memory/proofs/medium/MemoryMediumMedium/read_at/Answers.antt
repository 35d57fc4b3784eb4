use Rattle.std.proofs.Common.{◌≡◌, ℕ, ◌+◌, ◌-◌, ◌≤◌, List, length, take, drop, Some, None, Ok, Option, vec_items, sym, ap, ◌∙◌, subst, arith, length-drop}
use denote.Bor.{Bor}
use Rattle.std.proofs.lemmas.List.{take_all}
use Rattle.std.specs.Option.{ok_or}
use Rattle.std.specs.Slice.{IsGetRangeResult}
use Rattle.memory.specs.Supplies.{is_on}
use Rattle.memory.proofs.Steps.{gets}
use Rattle.memory.proofs.medium.MemoryMediumMedium.read_at.Goals as goal

some_of : {A E : Type 0} (r : Option A) (e : E) (x : A) → ok_or r e ≡ Ok x → r ≡ Some x
some_of (Some y) e x h = cc
some_of None e x h = cc

-- A part that there is.
record IsPart (all : List ℕ) (from to : ℕ) (part : List ℕ) : Type 0 where
  pub within : to ≤ length all
  pub forward : from ≤ to
  pub is : take (to - from) (drop from all) ≡ part

part_of : (all : List ℕ) (from to : ℕ) (r : Option (Bor (List ℕ))) (x : Bor (List ℕ)) → IsGetRangeResult all from to r → r ≡ Some x → IsPart all from to x.now
part_of all from to r x h e = let m = rw e at h in record { within = m.0.1; forward = m.0.0; is = sym m.0.2 }

-- A part of what follows a place.
reads : (all rest part : List ℕ) (offset n : ℕ) → IsPart all offset (length all) rest → IsPart rest 0 n part → n ≡ length part → (take (length part) (drop offset all) ≡ part) × (offset + length part ≤ length all)
reads all rest part offset n r p e =
    let long : length (drop offset all) ≡ length all - offset = length-drop offset all in
    let same : drop offset all ≡ rest = sym (take_all (length all - offset) (drop offset all) (omega arith)) ∙ r.is in
    let l : length (drop offset all) ≡ length rest = ap length same in
    let a = r.forward in
    let b = p.within in
    let z : length part ≡ n - 0 = omega arith in
    (rw (same, z) p.is, omega arith)

pub invariant_of-self : goal.invariant_of-self
invariant_of-self c =
    let s = c.args.self.now in
    let rest = part_of _ c.args.offset _ c.get.result c.in_ok-rest.rest c.get.ensures.lookup (some_of c.get.result _ c.in_ok-rest.rest (sym c.in_ok-rest.ensures.value)) in
    let part = part_of _ 0 _ c.get-2.result c.in_ok-bytes.bytes c.get-2.ensures.lookup (some_of c.get-2.result _ c.in_ok-bytes.bytes (sym c.in_ok-bytes.ensures.value)) in
    let P : List ℕ → List ℕ → Type 0 = λ all part. (take (length part) (drop c.args.offset all) ≡ part) × (c.args.offset + length part ≤ length all) in
    let f = subst (λ all. P all c.copy_from_slice.new.self) c.deref.ensures.value (subst (λ part. P c.deref.result.now part) (sym c.copy_from_slice.ensures.after) (reads _ _ _ c.args.offset _ rest part (sym c.copy_from_slice.ensures.len ∙ ap length c.copy_from_slice.ensures.after))) in
    let kept = gets (is_on s.power) s.lasting c.args.offset (vec_items s.bytes) c.copy_from_slice.new.self s.trace.asked c.got.result.asked (s.faithful, (s.whole, (s.left, tt))) c.got.ensures
    (sym c.in_ok-check.ensures)
    f.0
    f.1 in
    record { faithful = kept.0; whole = kept.1.0; left = kept.1.1.0 }
