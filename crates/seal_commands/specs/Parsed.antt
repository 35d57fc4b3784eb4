-- What the words of a line come to as a command.
use Rattle.std.specs.Prelude.{ℕ, cond, List, [], length, Ok, Err, vec_items, codes, Result, ◌==◌, slice_index_or}
use Rattle.std.specs.Str.{bytes_eq}
use Rattle.fields.specs.Fields.{bytes_of, fixed_of, number_of}
use Rattle.fields.specs.declared.faults.Malformed.{Malformed}
use Rattle.fields.specs.declared.faults.Malformed.TheVariants.{FieldCount, UnknownCommand}
use Rattle.fields.specs.declared.field.Field.{Field}
use Rattle.fields.specs.declared.field.Field.TheVariants as named
use Rattle.seal_commands.specs.declared.Text.{Text}
use Rattle.seal_commands.specs.declared.Command.{Command}
use Rattle.seal_commands.specs.declared.Command.TheVariants as commands

-- A command with its fields.
pub data Task : Type 0 where
  seal : (key nonce marked content : List ℕ) → Task
  «open» : (key nonce marked sealed : List ℕ) → Task
  block : (key : List ℕ) (counter : ℕ) (nonce : List ℕ) → Task
  stream : (key : List ℕ) (counter : ℕ) (nonce content : List ℕ) → Task
  once : (key nonce : List ℕ) → Task
  mark : (once message : List ℕ) → Task

-- What is made of the parts of a text.
abbrev pub made : (List ℕ → List ℕ → List ℕ → List ℕ → Task) → Text → Task
made make t = make t.key.bytes t.nonce.0 (vec_items t.marked) (vec_items t.text)

abbrev pub task_of : Command → Task
task_of (commands.Seal text) = made seal text
task_of (commands.Open text) = made «open» text
task_of (commands.Block key counter nonce) = block key.bytes counter nonce.0
task_of (commands.Stream key counter nonce content) = stream key.bytes counter nonce.0 (vec_items content)
task_of (commands.Once key nonce) = once key.bytes nonce.0
task_of (commands.Mark key message) = mark key.bytes (vec_items message)

-- One field after another: the first complaint is that of the line.
unfoldable pub and_then : {X Y : Type 0} → Result X Malformed → (X → Result Y Malformed) → Result Y Malformed
and_then (Ok x) next = next x
and_then (Err why) next = Err why

abbrev pub parts_of : (make : List ℕ → List ℕ → List ℕ → List ℕ → Task) → Field → (key nonce marked text : List ℕ) → Result Task Malformed
parts_of make called key nonce marked text =
    and_then (fixed_of 32 named.Key key) (λ k. and_then (fixed_of 12 named.Nonce nonce) (λ n. and_then (bytes_of named.Marked marked) (λ m. and_then (bytes_of called text) (λ t. Ok (make k n m t)))))

abbrev pub block_of : (key counter nonce : List ℕ) → Result Task Malformed
block_of key counter nonce =
    and_then (fixed_of 32 named.Key key) (λ k. and_then (number_of named.Counter counter) (λ i. and_then (fixed_of 12 named.Nonce nonce) (λ n. Ok (block k i n))))

abbrev pub stream_of : (key counter nonce content : List ℕ) → Result Task Malformed
stream_of key counter nonce content =
    and_then (fixed_of 32 named.Key key) (λ k. and_then (number_of named.Counter counter) (λ i. and_then (fixed_of 12 named.Nonce nonce) (λ n. and_then (bytes_of named.Content content) (λ c. Ok (stream k i n c)))))

abbrev pub once_of : (key nonce : List ℕ) → Result Task Malformed
once_of key nonce = and_then (fixed_of 32 named.Key key) (λ k. and_then (fixed_of 12 named.Nonce nonce) (λ n. Ok (once k n)))

abbrev pub mark_of : (once message : List ℕ) → Result Task Malformed
mark_of word message = and_then (fixed_of 32 named.Once word) (λ k. and_then (bytes_of named.Message message) (λ m. Ok (mark k m)))

-- So many fields, or the complaint that there are others.
abbrev pub counted : ℕ → List (List ℕ) → Result Task Malformed → Result Task Malformed
counted n fields said = cond (length fields == n) said (Err (FieldCount n))

abbrev pub parts_from : (make : List ℕ → List ℕ → List ℕ → List ℕ → Task) → Field → List (List ℕ) → Result Task Malformed
parts_from make called fields = counted 4 fields (parts_of make called (slice_index_or fields 0 []) (slice_index_or fields 1 []) (slice_index_or fields 2 []) (slice_index_or fields 3 []))

abbrev pub seal_from : List (List ℕ) → Result Task Malformed
seal_from = parts_from seal named.Content

abbrev pub open_from : List (List ℕ) → Result Task Malformed
open_from = parts_from «open» named.Sealed

abbrev pub block_from : List (List ℕ) → Result Task Malformed
block_from fields = counted 3 fields (block_of (slice_index_or fields 0 []) (slice_index_or fields 1 []) (slice_index_or fields 2 []))

abbrev pub stream_from : List (List ℕ) → Result Task Malformed
stream_from fields = counted 4 fields (stream_of (slice_index_or fields 0 []) (slice_index_or fields 1 []) (slice_index_or fields 2 []) (slice_index_or fields 3 []))

abbrev pub once_from : List (List ℕ) → Result Task Malformed
once_from fields = counted 2 fields (once_of (slice_index_or fields 0 []) (slice_index_or fields 1 []))

abbrev pub mark_from : List (List ℕ) → Result Task Malformed
mark_from fields = counted 2 fields (mark_of (slice_index_or fields 0 []) (slice_index_or fields 1 []))

-- The command that the first word names, with the fields of the others.
abbrev pub parsed : List ℕ → List (List ℕ) → Result Task Malformed
parsed word fields =
    cond (bytes_eq word (codes "seal")) (seal_from fields)
    (cond (bytes_eq word (codes "open")) (open_from fields)
    (cond (bytes_eq word (codes "block")) (block_from fields)
    (cond (bytes_eq word (codes "stream")) (stream_from fields)
    (cond (bytes_eq word (codes "once")) (once_from fields)
    (cond (bytes_eq word (codes "mark")) (mark_from fields) (Err UnknownCommand))))))
