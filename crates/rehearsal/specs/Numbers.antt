-- The numbers of the keys that the nodes of a small tree have.
use Rattle.std.specs.Prelude.{ℕ, zero, suc, ◌+◌, ◌/◌, List, Some, Option, slice_set}

-- So many turns up from a node: the one that it hangs on has the next number after the last, and so on.
unfoldable pub climbed : (levels node last : ℕ) → List (Option ℕ) → List (Option ℕ)
climbed zero node last numbers = numbers
climbed (suc h) node last numbers = climbed h (node / 2) (last + 1) (slice_set numbers (node / 2) (Some (last + 1)))
