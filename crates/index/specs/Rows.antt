-- The rows of an index: those of nodes by their numbers, those of places by theirs.
use Rattle.std.specs.Prelude.{◌≡◌, ℕ, ◌+◌, ◌^◌, List, Option, None, replicate, slice_index_or}
use Rattle.index.specs.declared.row.KeyRow.{KeyRow}
use Rattle.index.specs.declared.row.ContentRow.{ContentRow}

-- Past the last row there is none.
abbrev pub row_of : {A : Type 0} → List (Option A) → ℕ → Option A
row_of rows n = slice_index_or rows n None

abbrev pub key_row : List (Option KeyRow) → ℕ → Option KeyRow
key_row rows n = row_of rows n

abbrev pub content_row : List (Option ContentRow) → ℕ → Option ContentRow
content_row rows p = row_of rows p

-- No node has a key, and no place a content.
abbrev pub Empty : (levels : ℕ) → List (Option KeyRow) → List (Option ContentRow) → Type 0
Empty levels keys contents = (keys ≡ replicate (2 ^ (levels + 1)) None) × (contents ≡ replicate (2 ^ levels) None)
