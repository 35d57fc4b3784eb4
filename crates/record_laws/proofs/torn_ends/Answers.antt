use Rattle.record_laws.proofs.Decoding.{torn_ends}
use Rattle.record_laws.proofs.torn_ends.Goals as goal

pub returns : goal.returns
returns c = torn_ends
