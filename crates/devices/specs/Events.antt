-- What was asked of a medium, and what it answered.
use Rattle.std.specs.Prelude.{◌≡◌, ℕ, ◌+◌, ◌≤◌, ◌⊎◌, List, [], ◌∷◌, ◌++◌, length, take, drop}

-- appended: bytes were to be added at the end. synced: all was made to last. cut: all from a length on was to be cut off. got: these bytes were read, from an offset on.
pub data Event : Type 0 where
  appended : (bytes : List ℕ) → Event
  synced : Event
  cut : (length : ℕ) → Event
  got : (offset : ℕ) (bytes : List ℕ) → Event

-- A log has the newest event first. The bytes that a medium has that had `first` before it, where all that was asked is done.
unfoldable pub held : (first : List ℕ) → List Event → List ℕ
held first [] = first
held first (appended bytes ∷ log) = held first log ++ bytes
held first (synced ∷ log) = held first log
held first (cut n ∷ log) = take n (held first log)
held first (got offset bytes ∷ log) = held first log

-- The log without what was read.
unfoldable pub changes : List Event → List Event
changes [] = []
changes (appended bytes ∷ log) = appended bytes ∷ changes log
changes (synced ∷ log) = synced ∷ changes log
changes (cut n ∷ log) = cut n ∷ changes log
changes (got offset bytes ∷ log) = changes log

-- The bytes of a string from an offset on are these, all of them there.
abbrev pub StandsAt : (all : List ℕ) (offset : ℕ) (bytes : List ℕ) → Type 0
StandsAt all offset bytes = (take (length bytes) (drop offset all) ≡ bytes) × (offset + length bytes ≤ length all)

-- Whatever was read is what the medium then had. Of a file this is believed, and nothing proves it.
unfoldable pub Faithful : (first : List ℕ) → List Event → Type 0
Faithful first [] = Unit {0}
Faithful first (appended bytes ∷ log) = Faithful first log
Faithful first (synced ∷ log) = Faithful first log
Faithful first (cut n ∷ log) = Faithful first log
Faithful first (got offset bytes ∷ log) = StandsAt (held first log) offset bytes × Faithful first log

-- WHAT A STOP LEAVES: all up to the last sync, and some first part of what followed, cut at any byte.
unfoldable pub Left : (first : List ℕ) → List Event → (bytes : List ℕ) → Type 0
Left first [] bytes = bytes ≡ first
Left first (synced ∷ log) bytes = bytes ≡ held first log
Left first (got offset more ∷ log) bytes = Left first log bytes
Left first (cut n ∷ log) bytes = Left first log bytes ⊎ (bytes ≡ take n (held first log))
Left first (appended more ∷ log) bytes = Left first log bytes ⊎ ((n : ℕ) × (bytes ≡ held first log ++ take n more))
