-- What opening something that the medium has comes to.
use Rattle.std.specs.Prelude.{◌≡◌, ℕ, ◌%◌, List, [], ◌∷◌, length, Some, None, Ok, Err, Option, Result, ◌≢◌}
use Rattle.tree.specs.declared.answer.Refusal.TheVariants.{DoesNotOpen}
use Rattle.cipher.specs.Sealed.{slot_nonce}
use Rattle.records.specs.Format.{head, key_tag}
use Rattle.forgetting.specs.Change.{Numbered}
use Rattle.change.specs.Coded.{Cipher}
use Rattle.index.specs.declared.row.KeyRow.{KeyRow}
use Rattle.devices.specs.Events.{Event, got}
use Rattle.descent.specs.declared.failure.Failure.{Failure}
use Rattle.descent.specs.declared.failure.Failure.TheVariants.{Refused, Memory, Device, Stopped}

-- Bytes of the medium that are no sealed text of so many bytes were read.
pub record Shut (seals : List ℕ → List ℕ) (offset count : ℕ) (before after : List Event) : Type 0 where
  pub part : List ℕ
  pub long : length part ≡ count
  pub was_read : after ≡ got offset part ∷ before
  pub no_text : (text : List ℕ) → part ≢ seals text

-- Opened: what was read is the sealed text. Refused: it is none. Or the medium failed, and nothing was read.
abbrev pub Opens : {X : Type 0} → (seals : List ℕ → List ℕ) (offset count : ℕ) (before after : List Event) → Result X Failure → (text : List ℕ) → Type 0
Opens seals offset count before after (Ok _) text = after ≡ got offset (seals text) ∷ before
Opens seals offset count before after (Err (Refused why)) text = (why ≡ DoesNotOpen) × Shut seals offset count before after
Opens seals offset count before after (Err Device) text = after ≡ before
Opens seals offset count before after (Err Memory) text = ⊥
Opens seals offset count before after (Err Stopped) text = ⊥

-- How the key of a node is sealed under that of the node above.
abbrev pub key_seals : Cipher → (at number : ℕ) (above key : List ℕ) → List ℕ
key_seals sealed at number above key = sealed above (slot_nonce (at % 2)) (head key_tag at number) key

-- A key of 32 bytes with that number was read and opened.
pub record KeyOpened (seals : List ℕ → List ℕ) (number offset : ℕ) (before after : List Event) (key : Option Numbered) : Type 0 where
  pub bytes : List ℕ
  pub long : length bytes ≡ 32
  pub is : key ≡ Some (record { number = number; bytes = bytes })
  pub was_read : after ≡ got offset (seals bytes) ∷ before

-- The key that a row of the index says a node has: none, and nothing was read; or that one, opened.
abbrev pub OpensRow : {X : Type 0} → Cipher → (at : ℕ) → Option KeyRow → (above : List ℕ) (before after : List Event) → Result X Failure → Option Numbered → Type 0
OpensRow sealed at None above before after (Ok _) key = (after ≡ before) × (key ≡ None)
OpensRow sealed at None above before after (Err why) key = ⊥
OpensRow sealed at (Some row) above before after (Ok _) key = KeyOpened (key_seals sealed at row.number above) row.number row.offset before after key
OpensRow sealed at (Some row) above before after (Err why) key = Opens {X = Unit {0}} (key_seals sealed at row.number above) row.offset 48 before after (Err why) []

-- From a node's key to that of a node on it, as far as it has one; else the key stays.
abbrev pub Follows : {X : Type 0} → Cipher → (at : ℕ) → Option KeyRow → (above : List ℕ) (before after : List Event) → Result X Failure → (key : List ℕ) → Type 0
Follows sealed at None above before after (Ok _) key = (after ≡ before) × (key ≡ above)
Follows sealed at None above before after (Err why) key = ⊥
Follows sealed at (Some row) above before after r key = Opens (key_seals sealed at row.number above) row.offset 48 before after r key
