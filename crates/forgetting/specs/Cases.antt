-- Three changes of a store of four places, with keys and contents as numbers, and the records that they write.
use Rattle.std.specs.Prelude.{◌≡◌, ℕ, List, [], ◌∷◌, Some, None, Option, slice_index}
use mathlib.Core.List.{Memᴰ}
use Rattle.forgetting.specs.Secret.{Node, Key, Content}
use Rattle.forgetting.specs.Tree.{Tree, bare}
use Rattle.forgetting.specs.Change.{Edit, edited, Record, sealing, taking, records, single}
use Rattle.forgetting.specs.History.{root}

-- keys: of the place's node and of the nodes above it, in order.
pub record Row : Type 0 where
  pub before : Tree ℕ ℕ
  pub place : ℕ
  pub content : Option ℕ
  pub keys : List ℕ
  pub next : ℕ
  pub written : List (Record ℕ ℕ)

abbrev pub change_of : Row → Edit ℕ ℕ
change_of r = single r.content (λ h. slice_index r.keys h) 2 r.place

-- Node i, h levels above the places: nodes 4 to 7 are (0, 0) to (0, 3), node 2 is (1, 0).
abbrev pub at : (h i : ℕ) → Node
at h i = record { level = h; index = i }

-- Put x, as 100, in place 0 with the keys 1, 2 and 3: x under 1, key 1 under 2, key 2 under 3.
abbrev pub put_x : Row
put_x =
    record {
      before = bare;
      place = 0;
      content = Some 100;
      keys = 1 ∷ 2 ∷ 3 ∷ [];
      next = 1;
      written = sealing (Content (at 0 0) 0 1 100) ∷ sealing (Key (at 0 0) 0 2 1) ∷ sealing (Key (at 1 0) 0 3 2) ∷ [];
    }

-- Put y, as 200, in place 1 with the keys 4, 5 and 6: y under 4; keys 4 and 1 under 5; 5 under 6.
abbrev pub put_y : Row
put_y =
    record {
      before = edited (change_of put_x) bare;
      place = 1;
      content = Some 200;
      keys = 4 ∷ 5 ∷ 6 ∷ [];
      next = 4;
      written = sealing (Content (at 0 1) 0 4 200) ∷ sealing (Key (at 0 1) 1 5 4) ∷ sealing (Key (at 0 0) 0 5 1) ∷ sealing (Key (at 1 0) 0 6 5) ∷ [];
    }

-- Take out place 0 with the keys 7 and 8: that it was taken out, with number 7; key 4 under 7; 7 under 8.
abbrev pub take_x : Row
take_x =
    record {
      before = edited (change_of put_y) (edited (change_of put_x) bare);
      place = 0;
      content = None;
      keys = 0 ∷ 7 ∷ 8 ∷ [];
      next = 7;
      written = taking (at 0 0) 7 ∷ sealing (Key (at 0 1) 1 7 4) ∷ sealing (Key (at 1 0) 0 8 7) ∷ [];
    }

abbrev pub rows : List Row
rows = put_x ∷ put_y ∷ take_x ∷ []

abbrev pub Cases : Type 0
Cases = (r : Row) → Memᴰ r rows → records r.next (root 2) (change_of r) r.before ≡ r.written
