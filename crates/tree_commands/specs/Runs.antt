-- What carrying out a command comes to, on a tree of which it is known what each step gives.
use Rattle.std.specs.Prelude.{◌≡◌, ℕ, List, [], Some, None, Err, vec_items, string_bytes, Option, Result, String, IfOk, OnOk, IsSomeAnd}
use Rattle.std.specs.declared.alloc.Global.{Global}
use Rattle.fields.specs.Fields.{written_of}
use Rattle.fields.specs.declared.faults.Failure.{Failure}
use Rattle.fields.specs.declared.faults.Failure.TheVariants.{Refused}
use Rattle.fields.specs.declared.faults.Refusal.TheVariants.{NoTree}
use Rattle.rehearsal.specs.declared.levels.Levels.{Levels}
use Rattle.tree_commands.specs.declared.command.TreeCommand.{TreeCommand}
use Rattle.tree_commands.specs.declared.command.TreeCommand.TheVariants.{Tree, Put, Out, Bytes, Decode}

-- A change of the tree; where there is none, that is said.
abbrev pub Changes : {T : Type 0} → (T → Result (String Global) Failure → T → Type 0) → Option T → Result (String Global) Failure → Option T → Type 0
Changes Gives None r after = (r ≡ Err (Refused NoTree)) × (after ≡ None)
Changes Gives (Some before) r after = IsSomeAnd after (Gives before r)

-- The bytes of the last change, if any was made.
abbrev pub LastOf : {T : Type 0} → (T → List ℕ → Type 0) → Option T → List ℕ → Type 0
LastOf Last None bytes = bytes ≡ []
LastOf Last (Some tree) bytes = Last tree bytes

module _ {T : Type 0} (New : Levels → T → Type 0) (Puts : ℕ → List ℕ → T → Result (String Global) Failure → T → Type 0) (Takes : ℕ → T → Result (String Global) Failure → T → Type 0) (Last : T → List ℕ → Type 0) where
  abbrev pub Ran : TreeCommand → Option T → Result (String Global) Failure → Option T → Type 0
  Ran (Tree levels) before r after = OnOk r (IsSomeAnd after (New levels))
  Ran (Put place content) before r after = Changes (Puts place (vec_items content)) before r after
  Ran (Out place) before r after = Changes (Takes place) before r after
  Ran Bytes before r after = (after ≡ before) × IfOk r (λ text. (bytes : List ℕ) × LastOf Last before bytes × (string_bytes text ≡ written_of bytes))
  Ran (Decode levels bytes) before r after = after ≡ before
