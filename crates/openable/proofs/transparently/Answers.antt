use Rattle.openable.proofs.transparently.Goals as goal
use Rattle.openable.proofs.Opening.{transparent_faithful, rule_on_bytes}

pub returns : goal.returns
returns c = record { faithful = transparent_faithful; rule = rule_on_bytes }
