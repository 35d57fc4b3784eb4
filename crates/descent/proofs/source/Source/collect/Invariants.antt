-- With h levels left nothing was changed on the medium, the key is that of the path node with h levels below it, and the siblings of that level and above are there.
use Rattle.std.proofs.Common.{◌≡◌, ℕ, ◌-◌, ◌/◌, ◌^◌, ◌<◌, ◌≤◌}
use Rattle.forgetting.specs.Climb.{sibling_key}
use Rattle.change.specs.Nodes.{sibling_in}
use Rattle.devices.specs.Events.{changes}
use Rattle.index.specs.Noted.{rows_of}
use Rattle.descent.specs.Path.{OfShown, KeyAt}
use Rattle.descent.proofs.source.Source.collect.Given as goal

abbrev pub invariant-loop-h : goal.invariant-loop-h
invariant-loop-h g l =
    (changes (g.M.Medium.log l.self.medium) ≡ changes (g.M.Medium.log l.initial.self.medium))
    × OfShown g.S.Sealing.sealed l.fn.leaf.levels (rows_of l.index) l.initial.key.bytes (g.M.Medium.log l.initial.self.medium) (g.M.Medium.log l.self.medium) (KeyAt l.key.bytes (l.fn.leaf.levels - l.h) (l.fn.leaf.place / 2 ^ l.h))
    × OfShown g.S.Sealing.sealed l.fn.leaf.levels (rows_of l.index) l.initial.key.bytes (g.M.Medium.log l.initial.self.medium) (g.M.Medium.log l.self.medium)
    (λ t. (h : ℕ) → l.h ≤ h → h < l.fn.leaf.levels → sibling_in l.siblings h ≡ sibling_key l.fn.leaf.levels l.fn.leaf.place h t)
    × (1 ≤ l.h)
