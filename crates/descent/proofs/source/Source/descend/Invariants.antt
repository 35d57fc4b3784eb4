-- With h levels left nothing was changed on the medium, and the key is that of the path node with h levels below it.
use Rattle.std.proofs.Common.{◌≡◌, ◌-◌, ◌/◌, ◌^◌}
use Rattle.devices.specs.Events.{changes}
use Rattle.index.specs.Noted.{rows_of}
use Rattle.descent.specs.Path.{OfShown, KeyAt}
use Rattle.descent.proofs.source.Source.descend.Given as goal

abbrev pub invariant-loop-h : goal.invariant-loop-h
invariant-loop-h g l =
    (changes (g.M.Medium.log l.self.medium) ≡ changes (g.M.Medium.log l.initial.self.medium))
    × OfShown g.S.Sealing.sealed l.fn.leaf.levels (rows_of l.index) l.initial.key.bytes (g.M.Medium.log l.initial.self.medium) (g.M.Medium.log l.self.medium) (KeyAt l.key.bytes (l.fn.leaf.levels - l.h) (l.fn.leaf.place / 2 ^ l.h))
