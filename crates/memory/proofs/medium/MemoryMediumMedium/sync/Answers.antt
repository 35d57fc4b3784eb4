use Rattle.std.proofs.Common.{vec_items, arith}
use Rattle.memory.specs.Supplies.{is_on}
use Rattle.memory.proofs.Steps.{syncs, goes_off}
use Rattle.memory.proofs.Supplied.{goes_out, full_on}
use Rattle.memory.proofs.medium.MemoryMediumMedium.sync.Goals as goal

pub invariant_of-self : goal.invariant_of-self
invariant_of-self c =
    let s = c.args.self.now in
    let kept = goes_off (is_on s.power) (is_on c.spend.new.self) s.lasting (vec_items s.bytes) s.trace.asked (s.faithful, (s.whole, (s.left, tt)))
    (goes_out c.spend.result s.power c.spend.new.self c.spend.ensures c.in_err-full.ensures) in
    record { faithful = kept.0; whole = kept.1.0; left = kept.1.1.0 }

pub invariant_of-self-2 : goal.invariant_of-self-2
invariant_of-self-2 c =
    let s = c.args.self.now in
    let kept = syncs (is_on s.power) (is_on c.spend.new.self) s.lasting c.len-self.result (vec_items s.bytes) s.trace.asked c.synced.result.asked (s.faithful, (s.whole, (s.left, tt))) c.synced.ensures
    (full_on c.spend.result s.power c.spend.new.self c.spend.ensures c.in_ok-full.ensures) (omega (arith, s.bytes.ok.0)) in
    record { faithful = kept.0; whole = kept.1.0; left = kept.1.1.0 }
