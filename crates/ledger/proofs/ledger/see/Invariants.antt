use Rattle.std.proofs.Common.{◌≡◌, take}
use Rattle.ledger.specs.Book.{looked}
use Rattle.ledger.proofs.ledger.see.Given as goal

abbrev pub invariant-loop-stands : goal.invariant-loop-stands
invariant-loop-stands l = l.seen ≡ looked (take l.stands-index l.standing) l.initial.seen
