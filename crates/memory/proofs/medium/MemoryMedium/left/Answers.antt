use Rattle.std.proofs.Common.{◌≡◌, ℕ, ◌+◌, ◌-◌, take, vec_items, sym, ap, ◌∙◌, arith}
use Rattle.memory.specs.Stops.{is_left}
use Rattle.memory.proofs.Steps.{left_of}
use Rattle.memory.proofs.medium.MemoryMedium.left.Goals as goal

pub returns : goal.returns
returns c =
    let n = c.args.self.lasting in
    let m = c.saturating_add.result in
    let b = vec_items c.args.self.bytes in
    let log = c.args.self.trace.asked in
    let e : n + (m - n) ≡ m = omega arith in
    left_of log (vec_items c.truncate.new.self) (ap (is_left log) (c.truncate.ensures.items ∙ ap (λ (k : ℕ). take k b) (sym e)) ∙ c.args.self.left (m - n))
