use Rattle.ledger.proofs.ledger.fresh_keys.Goals as goal
use Rattle.ledger.proofs.Fresh.{fresh_allowed, some_fresh}

pub returns : goal.returns
returns c = record { allowed = fresh_allowed; some = some_fresh }
