-- What carrying out each command comes to.
use Rattle.std.specs.Prelude.{ℕ, List, vec_items, Result}
use Rattle.seal_tasks.specs.Tasks.{Sealed, Opened, Blocked, Streamed, Given, Marked}
use Rattle.seal_commands.specs.declared.Command.{Command}
use Rattle.seal_commands.specs.declared.Command.TheVariants.{Seal, Open, Block, Stream, Once, Mark}
use Rattle.fields.specs.declared.faults.Failure.{Failure}

abbrev pub Answered : {X : Type 0} → (X → List ℕ) → Command → Result X Failure → Type 0
Answered items (Seal text) r = Sealed items text.key.bytes text.nonce.0 (vec_items text.marked) (vec_items text.text) r
Answered items (Open text) r = Opened items text.key.bytes text.nonce.0 (vec_items text.marked) (vec_items text.text) r
Answered items (Block key counter nonce) r = Blocked items key.bytes counter nonce.0 r
Answered items (Stream key counter nonce content) r = Streamed items key.bytes counter nonce.0 (vec_items content) r
Answered items (Once key nonce) r = Given items key.bytes nonce.0 r
Answered items (Mark once message) r = Marked items once.bytes (vec_items message) r
