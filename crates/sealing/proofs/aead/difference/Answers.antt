use Rattle.std.proofs.Common.{◌≡◌, ◌+◌, ◌∷◌, [], ◌++◌, length, rules}
use Rattle.std.proofs.lemmas.List.{length-append}
use Rattle.std.proofs.lemmas.Slice.Zip.{zip_turn}
use Rattle.sealing.proofs.Bits.{alike_more, none_more}
use Rattle.sealing.proofs.aead.difference.Goals as goal

pub loop-x-preserved : goal.loop-x-preserved
loop-x-preserved c =
    let a = c.args.a.now in
    let b = c.args.b.now in
    let i = length c.loop-x.yielded in
    let at =
    zip_turn c.args.a.now c.args.b.now c.loop-x.yielded c.into_iter-x-iterator.result c.loop-x.x-iterator c.next.new.self c.next.result (search rules) (search rules)
    c.loop-x.yielded_by (c.in-Some.x, c.in-Some.y) c.in-Some.is c.next.ensures.steps in
    let n : length (c.loop-x.yielded ++ (c.in-Some.x, c.in-Some.y) ∷ []) ≡ length c.loop-x.yielded + 1 = simp length-append in
    record {
      none = rw (n, at.2 0, at.3 0) (alike_more a b c.loop-x.bits i c.loop-x.invariant.none);
      same = rw (at.2 0, at.3 0) (none_more a b c.loop-x.bits i c.loop-x.invariant.same);
    }
