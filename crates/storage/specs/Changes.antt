-- WHAT A PUT OR A TAKING OUT COMES TO.
use Rattle.std.specs.Prelude.{◌≡◌, ℕ, ◌⊎◌, List, ◌∷◌, length, Some, None, Ok, Err, Option, Result}
use Rattle.sealing.specs.declared.key.Key.{Key}
use Rattle.forgetting.specs.Tree.{Tree}
use Rattle.forgetting.specs.Change.{edited, counted, Numbered}
use Rattle.change.specs.Coded.{Cipher}
use Rattle.change.specs.Nodes.{bytes_in}
use Rattle.change.specs.Outcome.{refusal}
use Rattle.devices.specs.Events.{appended, synced, changes, Faithful}
use Rattle.tree.specs.declared.leaf.Leaf.{Leaf}
use Rattle.tree.specs.declared.answer.Refusal.{Refusal}
use Rattle.descent.specs.declared.failure.Failure.{Failure}
use Rattle.descent.specs.declared.failure.Failure.TheVariants.{Refused, Memory, Device, Stopped}
use Rattle.storage.specs.Seats.{State, AllZeros}
use Rattle.storage.specs.Standing.{Standing}
use Rattle.storage.specs.Prepares.{change_with, record_bytes}

-- The place that is changed; or that the change is refused, whatever keys are handed in.
abbrev pub Allows : (levels place : ℕ) → Option (List ℕ) → Result Leaf Refusal → Type 0
Allows levels place w (Ok leaf) = (leaf.levels ≡ levels) × (leaf.place ≡ place)
Allows levels place w (Err why) = (given last : ℕ) → refusal levels place w given last ≡ Some why

-- The root's new key.
abbrev pub new_root : (levels last : ℕ) → Option (List ℕ) → (keys : List Key) → Numbered
new_root levels last w keys = counted w last (bytes_in keys) levels

-- Nothing has changed; at most something was read.
pub record Unchanged (before after : State) : Type 0 where
  pub log : changes after.log ≡ changes before.log
  pub rows : after.rows ≡ before.rows
  pub end : after.end ≡ before.end
  pub chip : after.chip ≡ before.chip
  pub given : after.given ≡ before.given
  pub keys : after.keys ≡ before.keys

-- MADE, in a tree t that the store stood for: the records of the change were written, then synced, and only then was the chip given the root's new key; the store stands for the changed tree.
pub record Made (sealed : Cipher) (levels place : ℕ) (w : Option (List ℕ)) (chip : Numbered) (first : List ℕ) (before after : State) (t : Tree Numbered (List ℕ)) : Type 0 where
  pub written : changes after.log ≡ synced ∷ (appended (record_bytes sealed levels place chip.number w before.keys t) ∷ changes before.log)
  pub turned : after.given ≡ record { key = new_root levels chip.number w before.keys; after = length (changes after.log) } ∷ before.given
  pub stands : Standing sealed levels first after.log after.rows after.end (new_root levels chip.number w before.keys) (edited (change_with levels place chip.number w before.keys) t)

-- BROKEN OFF, in a tree t: the records were to be written, and the chip was given the new key only after the sync, if at all.
pub record Broken (sealed : Cipher) (levels place : ℕ) (w : Option (List ℕ)) (chip : Numbered) (before after : State) (t : Tree Numbered (List ℕ)) : Type 0 where
  pub written : ((changes after.log ≡ appended (record_bytes sealed levels place chip.number w before.keys t) ∷ changes before.log) × (after.given ≡ before.given))
      ⊎ ((changes after.log ≡ synced ∷ (appended (record_bytes sealed levels place chip.number w before.keys t) ∷ changes before.log))
      × ((after.given ≡ before.given) ⊎ (after.given ≡ record { key = new_root levels chip.number w before.keys; after = length (changes after.log) } ∷ before.given)))

-- By the answer, of every tree that the store stood for. Done: made, the chip holds the root's new key, and every key handed in is zeros. Refused: by the number that there should be, and nothing has changed. Stopped: broken off, or it had stopped before.
abbrev pub OfTrees : Cipher → (levels : ℕ) (before after : State) → ((first : List ℕ) (chip : Numbered) (t : Tree Numbered (List ℕ)) → Type 0) → Type 0
OfTrees sealed levels before after P =
    (first : List ℕ) (chip : Numbered) (t : Tree Numbered (List ℕ)) → before.chip ≡ Some chip → Faithful first after.log → Standing sealed levels first before.log before.rows before.end chip t → P first chip t

abbrev pub Changes : {X : Type 0} → Cipher → (levels place : ℕ) → Option (List ℕ) → (before : State) → Result X Failure → (after : State) → Type 0
Changes sealed levels place w before (Ok _) after =
    ((chip : Numbered) → before.chip ≡ Some chip → (refusal levels place w (length before.keys) chip.number ≡ None) × (after.chip ≡ Some (new_root levels chip.number w before.keys)))
    × AllZeros before.keys after.keys × OfTrees sealed levels before after (λ first chip t. Made sealed levels place w chip first before after t)
Changes sealed levels place w before (Err (Refused why)) after =
    Unchanged before after × OfTrees sealed levels before after (λ first chip t. refusal levels place w (length before.keys) chip.number ≡ Some why)
Changes sealed levels place w before (Err Memory) after = Unchanged before after
Changes sealed levels place w before (Err Device) after = Unchanged before after
Changes sealed levels place w before (Err Stopped) after =
    (after.chip ≡ None)
    × (((before.chip ≡ None) × Unchanged before after)
    ⊎ (AllZeros before.keys after.keys × (after.rows ≡ before.rows) × (after.end ≡ before.end) × OfTrees sealed levels before after (λ first chip t. Broken sealed levels place w chip before after t)))
