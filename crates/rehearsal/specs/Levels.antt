-- How many levels a small tree has.
use Rattle.std.specs.Prelude.{ℕ}
use Rattle.rehearsal.specs.declared.levels.Levels.{Levels}
use Rattle.rehearsal.specs.declared.levels.Levels.TheVariants.{One, Two, Three}

abbrev pub levels_of : Levels → ℕ
levels_of One = 1
levels_of Two = 2
levels_of Three = 3
