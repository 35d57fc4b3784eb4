-- What a change of a small tree comes to.
use Rattle.std.specs.Prelude.{◌≡◌, ℕ, ◌+◌, ◌^◌, ◌<◌, List, [], get_or, Some, None, Ok, Err, vec_items, Option, Result, slice_index_or, slice_set}
use Rattle.cipher.specs.Sealed.{transparent}
use Rattle.forgetting.specs.Tree.{Tree}
use Rattle.forgetting.specs.Change.{records, single, draws, counted, Numbered}
use Rattle.forgetting.specs.Climb.{sibling_key}
use Rattle.forgetting.specs.History.{root}
use Rattle.change.specs.Coded.{bytes_of}
use Rattle.change.specs.declared.failure.Failure.{Failure}
use Rattle.rehearsal.specs.declared.state.Rehearsal.{Rehearsal}
use Rattle.rehearsal.specs.Keys.{keys_after}
use Rattle.rehearsal.specs.Levels.{levels_of}
use Rattle.rehearsal.specs.Numbers.{climbed}
use Rattle.rehearsal.specs.Siblings.{siblings_of}

-- The bytes are those of the change's records, whatever tree it is in which the siblings along the path have the keys with these numbers.
abbrev pub Recorded : (levels place last : ℕ) → Option (List ℕ) → (numbers : List (Option ℕ)) (bytes : List ℕ) → Type 0
Recorded levels place last w numbers bytes =
    (t : Tree Numbered (List ℕ)) → ((h : ℕ) → h < levels → slice_index_or (siblings_of (2 ^ levels + place) numbers levels) h None ≡ sibling_key levels place h t)
    → bytes ≡ bytes_of transparent levels (records (last + 1) (root levels) (single w (counted w last (λ j. get_or (keys_after last (draws w levels)) j [])) levels place) t)

-- The node of a place.
abbrev pub node_of : Rehearsal → (place : ℕ) → ℕ
node_of tree place = 2 ^ levels_of tree.levels + place

-- The place's node has that number or none, and those above it have the next ones; the last of these is the root's.
abbrev pub Turned : (place : ℕ) (own : Option ℕ) (number : ℕ) → Rehearsal → (root : ℕ) → Rehearsal → Type 0
Turned place own number before root after =
    (root ≡ number + levels_of before.levels) × (after.last ≡ root) × (after.levels ≡ before.levels)
    × (after.numbers.0 ≡ climbed (levels_of before.levels) (node_of before place) number (slice_set before.numbers.0 (node_of before place) own))

-- A put draws a key for the place's node. What is refused changes nothing.
abbrev pub Put : (place : ℕ) (content : List ℕ) → Rehearsal → Result ℕ Failure → Rehearsal → Type 0
Put place content before (Ok root) after =
    Turned place (Some (before.last + 1)) (before.last + 1) before root after
    × Recorded (levels_of before.levels) place before.last (Some content) before.numbers.0 (vec_items after.bytes)
Put place content before (Err why) after = after ≡ before

-- A taking out draws none.
abbrev pub Taken : (place : ℕ) → Rehearsal → Result ℕ Failure → Rehearsal → Type 0
Taken place before (Ok root) after =
    Turned place None before.last before root after × Recorded (levels_of before.levels) place before.last None before.numbers.0 (vec_items after.bytes)
Taken place before (Err why) after = after ≡ before

-- A put where there is a content, and a taking out where there is none.
abbrev pub Changed : (place : ℕ) → Option (List ℕ) → Rehearsal → Result ℕ Failure → Rehearsal → Type 0
Changed place (Some content) = Put place content
Changed place None = Taken place
