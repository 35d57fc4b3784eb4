-- What noting records makes of the rows.
use Rattle.std.specs.Prelude.{ℕ, zero, suc, ◌+◌, ◌-◌, ◌^◌, ◌≤◌, List, [], ◌∷◌, ◌++◌, length, Option, Some, None, vec_items, slice_set}
use Rattle.records.specs.Format.{Record, key, content, out, encode, Proper}
use Rattle.records.specs.Decode.{Decoded, one, ends, other, decoded}
use Rattle.index.specs.declared.row.KeyRow.{KeyRow}
use Rattle.index.specs.declared.row.ContentRow.{ContentRow}
use Rattle.index.specs.declared.Index.{Index}

-- The rows of nodes, by their numbers, and those of places.
pub record Rows : Type 0 where
  pub keys : List (Option KeyRow)
  pub contents : List (Option ContentRow)

abbrev pub rows_of : Index → Rows
rows_of index = record { keys = vec_items index.keys; contents = vec_items index.contents }

-- After a record that begins at a byte of the medium. What is sealed begins 13 bytes on in a key's record, 11 bytes on in a content's, and the last 16 bytes of it are its mark.
abbrev pub noted : (levels at : ℕ) → Record → Rows → Rows
noted levels at (key node number under sealed) rows =
    record { keys = slice_set rows.keys node (Some (record { number = number; under = under; offset = at + 13 })); contents = rows.contents }
noted levels at (content node number sealed) rows =
    record { keys = rows.keys; contents = slice_set rows.contents (node - 2 ^ levels) (Some (record { number = number; length = length sealed - 16; offset = at + 11 })) }
noted levels at (out node next) rows =
    record { keys = slice_set rows.keys node None; contents = slice_set rows.contents (node - 2 ^ levels) None }

-- After records that stand one after another.
unfoldable pub note_all : (levels at : ℕ) → List Record → Rows → Rows
note_all levels at [] rows = rows
note_all levels at (r ∷ rs) rows = note_all levels (at + length (encode r)) rs (noted levels at r rows)

unfoldable pub encode_all : List Record → List ℕ
encode_all [] = []
encode_all (r ∷ rs) = encode r ++ encode_all rs

-- By whether a record stands at the front.
abbrev pub if_one : {A : Type 0} → Decoded → (Record → List ℕ → A) → A → A
if_one (one r rest) found none = found r rest
if_one ends found none = none
if_one other found none = none

-- After what stands in bytes that begin at a byte of the medium: records are decoded from the front as long as there is one, at most so many.
unfoldable pub scanned : (levels most at : ℕ) → List ℕ → Rows → Rows
scanned levels zero at bytes rows = rows
scanned levels (suc most) at bytes rows =
    if_one (decoded levels bytes) (λ r rest. scanned levels most (at + (length bytes - length rest)) rest (noted levels at r rows)) rows

-- The sealed bytes of a content are at most 4,112, its mark with them.
abbrev pub Short : Record → Type 0
Short (key node number under sealed) = Unit {0}
Short (content node number sealed) = length sealed ≤ 4112
Short (out node next) = Unit {0}

-- What each record of a tree of so many levels can have.
abbrev pub AllProper : (levels : ℕ) → List Record → Type 0
AllProper levels [] = Unit {0}
AllProper levels (r ∷ rs) = Proper levels r × AllProper levels rs
