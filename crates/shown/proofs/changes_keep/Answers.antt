use Rattle.shown.proofs.Keeping.{change_keeps}
use Rattle.shown.proofs.changes_keep.Goals as goal

pub returns : goal.returns
returns c = change_keeps
