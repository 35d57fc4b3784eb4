use Rattle.std.proofs.Common.{vec_items}
use Rattle.memory.specs.Supplies.{is_on}
use Rattle.memory.proofs.Steps.{cuts, cuts_not}
use Rattle.memory.proofs.Supplied.{goes_out, full_on}
use Rattle.memory.proofs.medium.MemoryMediumMedium.cut.Goals as goal

pub invariant_of-self : goal.invariant_of-self
invariant_of-self c =
    let s = c.args.self.now in
    let kept = cuts_not (is_on s.power) (is_on c.spend.new.self) s.lasting c.args.length (vec_items s.bytes) s.trace.asked c.cut.result.asked (s.faithful, (s.whole, (s.left, tt))) c.cut.ensures
    (goes_out c.spend.result s.power c.spend.new.self c.spend.ensures c.in_err-full.ensures) in
    record { faithful = kept.0; whole = kept.1.0; left = kept.1.1.0 }

pub invariant_of-self-2 : goal.invariant_of-self-2
invariant_of-self-2 c =
    let s = c.args.self.now in
    let kept = cuts (is_on s.power) (is_on c.spend.new.self) s.lasting c.min-self.result c.args.length (vec_items s.bytes) (vec_items c.truncate.new.self) s.trace.asked c.cut.result.asked (s.faithful, (s.whole, (s.left, tt))) c.cut.ensures
    (full_on c.spend.result s.power c.spend.new.self c.spend.ensures c.in_ok-full.ensures) c.truncate.ensures.items c.min-self.ensures in
    record { faithful = kept.0; whole = kept.1.0; left = kept.1.1.0 }
