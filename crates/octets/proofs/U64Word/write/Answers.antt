use Rattle.std.proofs.Common.{◌∙◌}
use Rattle.octets.proofs.Laws.{eight_bytes}
use Rattle.octets.proofs.U64Word.write.Goals as goal

pub returns : goal.returns
returns c = c.copy_from_slice.ensures.after ∙ c.to_le_bytes.ensures ∙ eight_bytes c.args.self
