-- Going down a path of the tree that the medium shows.
use Rattle.std.specs.Prelude.{◌≡◌, ℕ, List, Some, None, Ok, Err, Option, Result}
use Rattle.tree.specs.declared.answer.Refusal.TheVariants.{NoSuchPlace, Nothing, DoesNotOpen, Old, Damaged, FewKeys, NumbersSpent}
use Rattle.forgetting.specs.Tree.{Tree, key_of, place_in, content_of}
use Rattle.forgetting.specs.Change.{Numbered}
use Rattle.change.specs.Coded.{Cipher}
use Rattle.change.specs.Outcome.{Siblings}
use Rattle.change.specs.declared.node.NodeKey.{NodeKey}
use Rattle.index.specs.Noted.{Rows}
use Rattle.shown.specs.Shown.{Shows, Counts}
use Rattle.devices.specs.Events.{Event, held, Faithful}
use Rattle.descent.specs.declared.failure.Failure.{Failure}
use Rattle.descent.specs.declared.failure.Failure.TheVariants.{Refused, Memory, Device, Stopped}

-- The key of a node, as far as it has one: the node with g levels above it and index i among those.
abbrev pub KeyAt : (key : List ℕ) (g i : ℕ) → Tree Numbered (List ℕ) → Type 0
KeyAt key g i t = (k : Numbered) → key_of (place_in g i t) ≡ Some k → key ≡ k.bytes

-- A medium that had `first` before its log began, and the rows of its index, show a tree; its root has that key, and its keys have numbers up to the last.
pub record Showing (sealed : Cipher) (levels last : ℕ) (first : List ℕ) (log : List Event) (rows : Rows) (root : List ℕ) (t : Tree Numbered (List ℕ)) : Type 0 where
  pub shows : Shows sealed levels (held first log) rows t
  pub counts : Counts last t
  pub top : KeyAt root 0 0 t

-- What holds of every tree that is shown, if all that was read is what the medium had.
abbrev pub OfShown : Cipher → (levels : ℕ) (rows : Rows) (root : List ℕ) (before after : List Event) → (Tree Numbered (List ℕ) → Type 0) → Type 0
OfShown sealed levels rows root before after P =
    (first : List ℕ) (last : ℕ) (t : Tree Numbered (List ℕ)) → Faithful first after → Showing sealed levels last first before rows root t → P t

-- What can go wrong with a tree that is shown: a device fails. That something doesn't open can't be.
abbrev pub Fails : Failure → Type 0
Fails (Refused why) = ⊥
Fails Device = Unit {0}
Fails Memory = ⊥
Fails Stopped = ⊥

-- What can go wrong on the way down, whatever the medium holds: never that the store has stopped.
abbrev pub Running : Failure → Type 0
Running (Refused why) = Unit {0}
Running Memory = Unit {0}
Running Device = Unit {0}
Running Stopped = ⊥

abbrev pub StillRuns : {X : Type 0} → Result X Failure → Type 0
StillRuns (Ok _) = Unit {0}
StillRuns (Err why) = Running why

-- Why reading ends early: the place holds nothing; or something went wrong.
abbrev pub Ends : Failure → (holds : Option (List ℕ)) → Type 0
Ends (Refused Nothing) holds = holds ≡ None
Ends (Refused DoesNotOpen) holds = ⊥
Ends (Refused NoSuchPlace) holds = ⊥
Ends (Refused Old) holds = ⊥
Ends (Refused Damaged) holds = ⊥
Ends (Refused FewKeys) holds = ⊥
Ends (Refused NumbersSpent) holds = ⊥
Ends Device holds = Unit {0}
Ends Memory holds = ⊥
Ends Stopped holds = ⊥

-- Down to a place: its node's key; or why not.
abbrev pub Descends : {X : Type 0} → (levels place : ℕ) → Result X Failure → (key : List ℕ) → Tree Numbered (List ℕ) → Type 0
Descends levels place (Ok _) key t = KeyAt key levels place t
Descends levels place (Err why) key t = Ends why (content_of (place_in levels place t))

-- Down to a place, with the keys beside the path: those that the siblings have in the tree; or why not.
abbrev pub Collects : {X : Type 0} → (levels place : ℕ) → Result X Failure → (siblings : List (Option NodeKey)) → Tree Numbered (List ℕ) → Type 0
Collects levels place (Ok _) siblings t = Siblings levels place t siblings
Collects levels place (Err why) siblings t = Fails why
