use Rattle.record_laws.proofs.Decoding.{encodes_decoded}
use Rattle.record_laws.proofs.encodes_decoded.Goals as goal

pub returns : goal.returns
returns c = encodes_decoded
