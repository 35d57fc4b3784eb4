use Rattle.std.proofs.Common.{vec_items, arith}
use Rattle.memory.proofs.Steps.{begins}
use Rattle.memory.proofs.medium.MemoryMedium.new.Goals as goal

pub invariant_of-result : goal.invariant_of-result
invariant_of-result c =
    let kept = begins (vec_items c.args.bytes) c.len-lasting.result c.synced-trace.result.asked
    (let d = c.deref.ensures.value in let e = c.synced-trace.ensures in let f = c.appended.ensures in let g = c.new.ensures in cc)
    (omega (arith, c.args.bytes.ok.0)) in
    record { faithful = kept.0; whole = kept.1.0; left = kept.1.1.0 }
