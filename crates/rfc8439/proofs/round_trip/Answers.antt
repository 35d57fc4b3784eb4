use Rattle.sealing.proofs.Laws.{round_trip}
use Rattle.rfc8439.proofs.round_trip.Goals as goal

pub returns : goal.returns
returns c = round_trip
