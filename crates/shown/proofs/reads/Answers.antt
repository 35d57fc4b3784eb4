use Rattle.shown.proofs.Reading.{reads_shown, path_shown, empty_shows}
use Rattle.shown.proofs.reads.Goals as goal

pub returns : goal.returns
returns c = record { place = reads_shown; path = path_shown; empty = empty_shows }
