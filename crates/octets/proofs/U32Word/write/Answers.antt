use Rattle.std.proofs.Common.{◌∙◌}
use Rattle.octets.proofs.Laws.{four_bytes}
use Rattle.octets.proofs.U32Word.write.Goals as goal

pub returns : goal.returns
returns c = c.copy_from_slice.ensures.after ∙ c.to_le_bytes.ensures ∙ four_bytes c.args.self
