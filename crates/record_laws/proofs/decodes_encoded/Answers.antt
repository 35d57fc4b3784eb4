use Rattle.record_laws.proofs.Decoding.{decodes_encoded}
use Rattle.record_laws.proofs.decodes_encoded.Goals as goal

pub returns : goal.returns
returns c = decodes_encoded
