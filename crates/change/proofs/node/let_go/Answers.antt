-- What is let go was cleared where it stood.
use Rattle.std.proofs.Common.{vec_items, subst, arith}
use Rattle.change.specs.Nodes.{Keyless}
use Rattle.change.proofs.Siblings.{keyless-last, keyless-front}
use Rattle.change.proofs.node.let_go.Goals as goal

pub drop-requires : goal.drop-requires
drop-requires c =
    let e = keyless-last (vec_items c.pop.new.self) c.in-Some.field-0 (subst Keyless c.in-Some.ensures.items c.loop.invariant) in
    grind (arith, e)

pub loop-preserved-in-Some : goal.loop-preserved-in-Some
loop-preserved-in-Some c = keyless-front (vec_items c.pop.new.self) c.in-Some.field-0 (subst Keyless c.in-Some.ensures.items c.loop.invariant)

pub loop-preserved-in-Some-2 : goal.loop-preserved-in-Some-2
loop-preserved-in-Some-2 c = keyless-front (vec_items c.pop.new.self) c.in-Some.field-0 (subst Keyless c.in-Some.ensures.items c.loop.invariant)
