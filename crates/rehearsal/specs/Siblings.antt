-- The keys of the siblings along the path from a place up.
use Rattle.std.specs.Prelude.{ℕ, zero, suc, ◌/◌, ◌^◌, List, [], ◌∷◌, ◌++◌, Some, None, Option, slice_index_or}
use Rattle.forgetting.specs.Change.{Numbered}
use Rattle.tree.specs.Nodes.{sibling_of}
use Rattle.rehearsal.specs.Keys.{key_of}

-- The key with a number, if there is one.
abbrev pub keyed : Option ℕ → Option Numbered
keyed None = None
keyed (Some n) = Some (record { number = n; bytes = key_of n })

-- Those of so many levels, from a node up.
unfoldable pub siblings_of : (node : ℕ) → List (Option ℕ) → (levels : ℕ) → List (Option Numbered)
siblings_of node numbers zero = []
siblings_of node numbers (suc h) = siblings_of node numbers h ++ keyed (slice_index_or numbers (sibling_of (node / 2 ^ h)) None) ∷ []
