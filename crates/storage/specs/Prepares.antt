-- What preparing a change comes to.
use Rattle.std.specs.Prelude.{◌≡◌, ℕ, ◌+◌, ◌≤◌, List, length, Some, None, Ok, Err, Option, Result}
use Rattle.sealing.specs.declared.key.Key.{Key}
use Rattle.forgetting.specs.Tree.{Tree}
use Rattle.forgetting.specs.Change.{Edit, records, single, draws, counted, Numbered}
use Rattle.forgetting.specs.History.{root}
use Rattle.change.specs.Coded.{Cipher, bytes_of}
use Rattle.change.specs.Nodes.{bytes_in}
use Rattle.change.specs.Outcome.{refusal}
use Rattle.descent.specs.Path.{Running}
use Rattle.descent.specs.declared.failure.Failure.{Failure}
use Rattle.descent.specs.declared.failure.Failure.TheVariants.{Refused, Memory, Device, Stopped}

-- THE CHANGE of a place with these keys, which are counted on from the last number; and its records as bytes, in a tree.
abbrev pub change_with : (levels place last : ℕ) → Option (List ℕ) → (keys : List Key) → Edit Numbered (List ℕ)
change_with levels place last w keys = single w (counted w last (bytes_in keys)) levels place

abbrev pub record_bytes : Cipher → (levels place last : ℕ) → Option (List ℕ) → (keys : List Key) → Tree Numbered (List ℕ) → List ℕ
record_bytes sealed levels place last w keys t = bytes_of sealed levels (records (last + 1) (root levels) (change_with levels place last w keys) t)

-- Whether it is refused, and the number of the root's new key, whatever tree it is; and never that the store has stopped.
abbrev pub Decides : (levels place last : ℕ) → Option (List ℕ) → (given : ℕ) → Result ℕ Failure → Type 0
Decides levels place last w given (Ok number) = (refusal levels place w given last ≡ None) × (number ≡ last + draws w levels) × (draws w levels ≤ given)
Decides levels place last w given (Err why) = Running why

-- Of a tree that is shown: its records; or the refusal that there should be, or what went wrong.
abbrev pub Prepares : Cipher → (levels place last : ℕ) → Option (List ℕ) → (keys : List Key) → Result ℕ Failure → (written : List ℕ) → Tree Numbered (List ℕ) → Type 0
Prepares sealed levels place last w keys (Ok number) written t = written ≡ record_bytes sealed levels place last w keys t
Prepares sealed levels place last w keys (Err (Refused why)) written t = refusal levels place w (length keys) last ≡ Some why
Prepares sealed levels place last w keys (Err Memory) written t = Unit {0}
Prepares sealed levels place last w keys (Err Device) written t = Unit {0}
Prepares sealed levels place last w keys (Err Stopped) written t = ⊥
