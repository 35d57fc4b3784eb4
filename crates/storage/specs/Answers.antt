-- WHAT CALLS ANSWER, by number and value.
use Rattle.std.specs.Prelude.{ℕ, ◌^◌, cond, List, length, take, Some, None, Ok, Err, Option, Result, nat_le, nat_lt}
use Rattle.tree.specs.Answers.{number_of}
use Rattle.tree.specs.declared.answer.Refusal.{Refusal}
use Rattle.tree.specs.declared.answer.Refusal.TheVariants.{NoSuchPlace, Nothing}
use Rattle.index.specs.declared.row.ContentRow.{ContentRow}
use Rattle.forgetting.specs.Tree.{Tree, place_in, content_of}
use Rattle.forgetting.specs.Change.{Numbered}
use Rattle.descent.specs.declared.failure.Failure.{Failure}
use Rattle.descent.specs.declared.failure.Failure.TheVariants.{Refused, Memory, Device, Stopped}

-- content: these bytes. done: the change was made. refused: by that number, and nothing has changed. memory: there was none, and nothing has changed. device: one failed while something was read, and nothing has changed. stopped: a device failed in the middle of a change, and the store has not come up since.
pub data Answer : Type 0 where
  content : (bytes : List ℕ) → Answer
  done : Answer
  refused : (number : ℕ) → Answer
  memory : Answer
  device : Answer
  stopped : Answer

abbrev pub failure_of : Failure → Answer
failure_of (Refused why) = refused (number_of why)
failure_of Memory = memory
failure_of Device = device
failure_of Stopped = stopped

-- Of a reading into a buffer.
abbrev pub reading_of : Result ℕ Failure → (buffer : List ℕ) → Answer
reading_of (Ok n) buffer = content (take n buffer)
reading_of (Err why) buffer = failure_of why

-- Of a put or a taking out.
abbrev pub change_of : {X : Type 0} → Result X Failure → Answer
change_of (Ok _) = done
change_of (Err why) = failure_of why

-- WHAT READING A PLACE SHOULD ANSWER, into a buffer of so many bytes: its content; 2 where it holds nothing; 1 where there is no such place, or the buffer is too short.
abbrev pub held_answer : (room : ℕ) → Option (List ℕ) → Answer
held_answer room None = refused 2
held_answer room (Some c) = cond (nat_le (length c) room) (content c) (refused 1)

abbrev pub read_answer : (levels place room : ℕ) → Tree Numbered (List ℕ) → Answer
read_answer levels place room t = cond (nat_lt place (2 ^ levels)) (held_answer room (content_of (place_in levels place t))) (refused 1)

-- WHAT A CHANGE SHOULD ANSWER: that it is done, unless it is refused.
abbrev pub change_answer : Option Refusal → Answer
change_answer None = done
change_answer (Some why) = refused (number_of why)

-- Why reading is refused before anything is opened, by the place and its row in the index: no such place, nothing there, or a content longer than the buffer.
abbrev pub row_refusal : (room : ℕ) → Option ContentRow → Option Refusal
row_refusal room None = Some Nothing
row_refusal room (Some row) = cond (nat_le row.length room) None (Some NoSuchPlace)

abbrev pub read_refusal : (levels place room : ℕ) → Option ContentRow → Option Refusal
read_refusal levels place room row = cond (nat_lt place (2 ^ levels)) (row_refusal room row) (Some NoSuchPlace)
