use Rattle.std.proofs.Common.{sym, ◌∙◌}
use Rattle.memory.proofs.Steps.{faithful_of}
use Rattle.memory.proofs.medium.MemoryMedium.bytes.Goals as goal

pub returns : goal.returns
returns c =
    record {
      value = c.as_slice.ensures.value;
      whole = λ h. c.args.self.now.whole h ∙ sym c.as_slice.ensures.value;
      faithful = faithful_of c.args.self.now.trace.asked c.args.self.now.faithful;
    }
