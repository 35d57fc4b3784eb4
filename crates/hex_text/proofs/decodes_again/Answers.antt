use Rattle.hex_text.proofs.Laws.{decodes_again}
use Rattle.hex_text.proofs.decodes_again.Goals as goal

pub returns : goal.returns
returns c = decodes_again
