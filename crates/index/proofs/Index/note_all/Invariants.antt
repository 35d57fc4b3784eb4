use Rattle.std.proofs.Common.{◌≡◌, ◌+◌, ◌^◌, ◌<◌, length}
use Rattle.index.specs.Noted.{rows_of, scanned}
use Rattle.index.proofs.Index.note_all.Given as goal

-- What is left gives what the whole gives.
abbrev pub invariant-loop-record : goal.invariant-loop-record
invariant-loop-record l =
    (scanned l.levels (length l.left) l.from l.left (rows_of l.self) ≡ scanned l.levels (length l.initial.left) l.initial.from l.initial.left (rows_of l.initial.self))
    × (l.from + length l.left < 2 ^ 63)

abbrev pub decreases-loop-record : goal.decreases-loop-record
decreases-loop-record l = length l.left
