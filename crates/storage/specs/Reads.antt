-- What reading a place comes to.
use Rattle.std.specs.Prelude.{◌≡◌, ℕ, ◌<◌, ◌≤◌, ◌⊎◌, List, length, take, drop, Some, None, Ok, Err, Option, Result}
use Rattle.forgetting.specs.Tree.{Tree, place_in, content_of}
use Rattle.forgetting.specs.Change.{Numbered}
use Rattle.descent.specs.Path.{Ends}
use Rattle.index.specs.declared.row.ContentRow.{ContentRow}
use Rattle.tree.specs.declared.leaf.Leaf.{Leaf}
use Rattle.tree.specs.declared.answer.Refusal.{Refusal}
use Rattle.tree.specs.declared.answer.Refusal.TheVariants.{NoSuchPlace}
use Rattle.descent.specs.declared.failure.Failure.{Failure}
use Rattle.descent.specs.declared.failure.Failure.TheVariants.{Refused}
use Rattle.storage.specs.Answers.{Answer, device, read_refusal}

-- The place that is read; or why reading is refused, by the place and its row in the index.
abbrev pub Finds : (levels place room : ℕ) → Option ContentRow → Result Leaf Refusal → Type 0
Finds levels place room row (Ok leaf) = (read_refusal levels place room row ≡ None) × (leaf.levels ≡ levels) × (leaf.place ≡ place)
Finds levels place room row (Err why) = read_refusal levels place room row ≡ Some why

-- The content stands at the front of the room; or why not.
abbrev pub Reads : (levels place : ℕ) → Result ℕ Failure → (room : List ℕ) → Tree Numbered (List ℕ) → Type 0
Reads levels place (Ok n) room t = content_of (place_in levels place t) ≡ Some (take n room)
Reads levels place (Err why) room t = Ends why (content_of (place_in levels place t))

-- What was read, copied to the front of a buffer; where it doesn't fit, or nothing was read, the buffer is as it was.
abbrev pub CopiesOut : Result ℕ Failure → (room before : List ℕ) → Result ℕ Failure → (after : List ℕ) → Type 0
CopiesOut (Ok n) room before (Ok m) after = (m ≡ n) × (n ≤ length before) × (take n after ≡ take n room) × (drop n after ≡ drop n before)
CopiesOut (Ok n) room before (Err why) after = (why ≡ Refused NoSuchPlace) × (length before < n) × (after ≡ before)
CopiesOut (Err why) room before (Ok m) after = ⊥
CopiesOut (Err why) room before (Err other) after = (other ≡ why) × (after ≡ before)

-- The content stands at the front of the buffer, and the rest is as it was; where there is none, all of it is.
abbrev pub Fills : (before : List ℕ) → Result ℕ Failure → (after : List ℕ) → Type 0
Fills before (Ok n) after = (n ≤ length before) × (drop n after ≡ drop n before)
Fills before (Err why) after = after ≡ before

-- What is answered is what should be, unless a device failed.
abbrev pub Answers : (is should : Answer) → Type 0
Answers is should = (is ≡ device) ⊎ (is ≡ should)
