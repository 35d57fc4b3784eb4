-- What a change comes to.
use Rattle.std.proofs.Common.{◌≡◌, ℕ, ◌+◌, ◌-◌, List, Some, None, Ok, Option, slice_set, vec_items, arith}
use Rattle.std.specs.Borrow.{Bor}
use Rattle.std.specs.Option.{option_and}
use Rattle.forgetting.specs.Change.{draws}
use Rattle.change.specs.Nodes.{content_in}
use Rattle.rehearsal.specs.declared.state.Rehearsal.{Rehearsal}
use Rattle.rehearsal.specs.Changes.{Recorded, Changed, node_of}
use Rattle.rehearsal.specs.Levels.{levels_of}
use Rattle.rehearsal.specs.Numbers.{climbed}

-- The first number after the last is the place's own, where something is put in.
pub changed : (place root : ℕ) (content : Option (Bor (List ℕ))) (before after : Rehearsal) → root ≡ before.last + draws (content_in content) (levels_of before.levels) → after.last ≡ root → after.levels ≡ before.levels
    → after.numbers.0 ≡ climbed (levels_of before.levels) (node_of before place) (root - levels_of before.levels) (slice_set before.numbers.0 (node_of before place) (option_and content (Some (root - levels_of before.levels))))
    → Recorded (levels_of before.levels) place before.last (content_in content) before.numbers.0 (vec_items after.bytes) → Changed place (content_in content) before (Ok root) after
changed place root None before after drawn last levels numbers written =
    let e : root - levels_of before.levels ≡ before.last = omega arith in
    ((drawn, last, levels, rw e at numbers), written)
changed place root (Some c) before after drawn last levels numbers written =
    let e : root - levels_of before.levels ≡ before.last + 1 = omega arith in
    ((omega arith, last, levels, rw e at numbers), written)
