use Rattle.shown.proofs.Scanning.{scans, scanned-shows}
use Rattle.shown.proofs.scans.Goals as goal

pub returns : goal.returns
returns c = record { notes = scans; shows = scanned-shows }
