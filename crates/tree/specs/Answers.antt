-- The refusals by their numbers.
use Rattle.std.specs.Prelude.{ℕ}
use Rattle.tree.specs.declared.answer.Refusal.{Refusal}
use Rattle.tree.specs.declared.answer.Refusal.TheVariants.{NoSuchPlace, Nothing, DoesNotOpen, Old, Damaged, FewKeys, NumbersSpent}

abbrev pub number_of : Refusal → ℕ
number_of NoSuchPlace = 1
number_of Nothing = 2
number_of DoesNotOpen = 3
number_of Old = 4
number_of Damaged = 5
number_of FewKeys = 6
number_of NumbersSpent = 7
