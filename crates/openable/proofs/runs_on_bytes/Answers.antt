use Rattle.openable.proofs.runs_on_bytes.Goals as goal
use Rattle.openable.proofs.Opening.{stood_opens, nothing_else}

pub returns : goal.returns
returns c = record { stood = stood_opens; nothing = nothing_else }
