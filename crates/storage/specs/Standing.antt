-- What a store stands for: a tree of keys and contents.
use Rattle.std.specs.Prelude.{◌≡◌, ℕ, ◌<◌, ◌⊎◌, List, length, replicate, Some, Option}
use Rattle.forgetting.specs.Tree.{Tree, bare, leaf, node}
use Rattle.forgetting.specs.Change.{Numbered}
use Rattle.change.specs.Coded.{Cipher}
use Rattle.index.specs.Noted.{Rows}
use Rattle.shown.specs.Shown.{Shows, Counts}
use Rattle.tree.specs.declared.answer.Refusal.TheVariants.{NoSuchPlace, Nothing, DoesNotOpen, Old, Damaged, FewKeys, NumbersSpent}
use Rattle.devices.specs.Events.{Event, held, Faithful}
use Rattle.descent.specs.declared.failure.Failure.{Failure}
use Rattle.descent.specs.declared.failure.Failure.TheVariants.{Refused, Memory, Device, Stopped}

-- What the chip holds for a tree: the root's key; at first number 0 and zeros.
abbrev pub chip_of : {C : Type 0} → Tree Numbered C → Numbered
chip_of bare = record { number = 0; bytes = replicate 32 0 }
chip_of (leaf k c) = k
chip_of (node k l r) = k

-- A medium with that log, which had `first` before, the rows of its index, how many bytes it has, and what the chip holds, stand for a tree: the medium shows it, and the chip holds its root's key, the last that was drawn.
pub record Standing (sealed : Cipher) (levels : ℕ) (first : List ℕ) (log : List Event) (rows : Rows) (end : ℕ) (chip : Numbered) (t : Tree Numbered (List ℕ)) : Type 0 where
  pub shows : Shows sealed levels (held first log) rows t
  pub counts : Counts chip.number t
  pub holds : chip ≡ chip_of t
  pub ends : end ≡ length (held first log)

-- What holds of every tree that a store stands for, if all that was read is what the medium had.
abbrev pub OfStanding : Cipher → (levels : ℕ) (rows : Rows) (end : ℕ) (chip : Option Numbered) (before after : List Event) → (Tree Numbered (List ℕ) → Type 0) → Type 0
OfStanding sealed levels rows end chip before after P =
    (first : List ℕ) (held : Numbered) (t : Tree Numbered (List ℕ)) → chip ≡ Some held → Faithful first after → Standing sealed levels first before rows end held t → P t

-- Why no store is made of empty devices: there is none of so many levels; or the chip was given a key, so the medium is old; or there is no memory.
abbrev pub NotBegun : (levels number : ℕ) → Failure → Type 0
NotBegun levels number (Refused NoSuchPlace) = (levels ≡ 0) ⊎ (19 < levels)
NotBegun levels number (Refused Nothing) = ⊥
NotBegun levels number (Refused DoesNotOpen) = ⊥
NotBegun levels number (Refused Old) = number ≡ 0 → ⊥
NotBegun levels number (Refused Damaged) = ⊥
NotBegun levels number (Refused FewKeys) = ⊥
NotBegun levels number (Refused NumbersSpent) = ⊥
NotBegun levels number Memory = Unit {0}
NotBegun levels number Device = ⊥
NotBegun levels number Stopped = ⊥
