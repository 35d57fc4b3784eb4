use Rattle.openable.proofs.records_open.Goals as goal
use Rattle.openable.proofs.Opening.{records_open, records_open_no_more}

pub returns : goal.returns
returns c = record { all = records_open; only = records_open_no_more }
