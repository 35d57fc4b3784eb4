-- CASES on a store of four places, with keys and contents as numbers: what a change writes, which key the chip has at the end, and what can be opened then.
use Rattle.std.specs.Prelude.{◌≡◌, ℕ, zero, suc, List, [], ◌∷◌, ◌++◌, slice_index}
use mathlib.Core.List.{Memᴰ}
use Rattle.forgetting.specs.Secret.{Node, Key, Content}
use Rattle.forgetting.specs.Tree.{Tree}
use Rattle.forgetting.specs.Change.{Record, sealing, taking, records}
use Rattle.forgetting.specs.History.{root}
use Rattle.runs.specs.Moments.{State, start, chip_key, Act, starts, writes, turns, stops, looks, run, Allowed, Stands, CanOpen, put_act, out_act}

-- First happens before; then the change begins, of which records are the records; and then happens after. chip: the chip's key at the end. opens: contents that can be opened with the chip's keys at all looks and all that was written. shut: contents that cannot.
pub record Row : Type 0 where
  pub before : List (Act ℕ ℕ)
  pub change : Act ℕ ℕ
  pub records : List (Record ℕ ℕ)
  pub after : List (Act ℕ ℕ)
  pub chip : ℕ
  pub opens : List ℕ
  pub shut : List ℕ

abbrev pub acts_of : Row → List (Act ℕ ℕ)
acts_of r = r.before ++ (r.change ∷ r.after)

-- The chip has 0 at first.
abbrev pub at_end : Row → State ℕ ℕ
at_end r = run 2 (acts_of r) (start 0)

abbrev pub OpenAt : State ℕ ℕ → ℕ → Type 0
OpenAt s c = CanOpen 0 s.looks s.written c

abbrev pub records_of : Act ℕ ℕ → Tree ℕ ℕ → List (Record ℕ ℕ)
records_of (starts next e) t = records next (root 2) e t
records_of writes t = []
records_of turns t = []
records_of stops t = []
records_of looks t = []

-- The run is one that may be, and what the row says is so.
pub record Meets (r : Row) : Type 0 where
  pub allowed : Allowed 2 0 (acts_of r)
  pub records : records_of r.change (run 2 r.before (start 0)).tree ≡ r.records
  pub chip : chip_key 0 (at_end r).tree ≡ r.chip
  pub opens : (c : ℕ) → Memᴰ c r.opens → OpenAt (at_end r) c
  pub shut : (c : ℕ) → Memᴰ c r.shut → OpenAt (at_end r) c → ⊥

-- Node i, h levels above the places: nodes 4 to 7 are (0, 0) to (0, 3), node 2 is (1, 0).
abbrev pub at : (h i : ℕ) → Node
at h i = record { level = h; index = i }

abbrev pub listed : List ℕ → ℕ → ℕ
listed keys h = slice_index keys h

-- Of n records each is written, and the chip turns; or the power fails before that.
abbrev pub times : {A : Type 0} → ℕ → A → List A
times zero a = []
times (suc n) a = a ∷ times n a

abbrev pub whole : ℕ → List (Act ℕ ℕ)
whole n = times n writes ++ (turns ∷ [])

abbrev pub cut : ℕ → List (Act ℕ ℕ)
cut n = times n writes ++ (stops ∷ [])

-- x is 100, y is 200, another y is 201. Keys are listed from the place's node up; a taking out uses none for the place.
abbrev pub put_x : Act ℕ ℕ
put_x = put_act 1 100 (listed (1 ∷ 2 ∷ 3 ∷ [])) 2 0

abbrev pub put_y : Act ℕ ℕ
put_y = put_act 4 200 (listed (4 ∷ 5 ∷ 6 ∷ [])) 2 1

abbrev pub take_x : Act ℕ ℕ
take_x = out_act 7 (listed (0 ∷ 7 ∷ 8 ∷ [])) 2 0

abbrev pub put_other_y : Act ℕ ℕ
put_other_y = put_act 7 201 (listed (7 ∷ 8 ∷ 9 ∷ [])) 2 1

-- y under 4; keys 4 and 1 under 5; 5 under 6.
abbrev pub records_of_y : List (Record ℕ ℕ)
records_of_y = sealing (Content (at 0 1) 0 4 200) ∷ sealing (Key (at 0 1) 1 5 4) ∷ sealing (Key (at 0 0) 0 5 1) ∷ sealing (Key (at 1 0) 0 6 5) ∷ []

-- A. Put x in place 0 with the keys 1, 2 and 3: x under 1, key 1 under 2, key 2 under 3. A look then opens x.
abbrev pub A : Row
A =
    record {
      before = [];
      change = put_x;
      records = sealing (Content (at 0 0) 0 1 100) ∷ sealing (Key (at 0 0) 0 2 1) ∷ sealing (Key (at 1 0) 0 3 2) ∷ [];
      after = whole 3 ++ (looks ∷ []);
      chip = 3;
      opens = 100 ∷ [];
      shut = 200 ∷ [];
    }

-- B. Then put y in place 1 with the keys 4, 5 and 6. A look then opens x and y.
abbrev pub B : Row
B = record { before = put_x ∷ whole 3; change = put_y; records = records_of_y; after = whole 4 ++ (looks ∷ []); chip = 6; opens = 100 ∷ 200 ∷ []; shut = 201 ∷ [] }

-- C. A look after the first put, and none after the second: x is open, and y is shut.
abbrev pub C : Row
C = record { before = put_x ∷ (whole 3 ++ (looks ∷ [])); change = put_y; records = records_of_y; after = whole 4; chip = 6; opens = 100 ∷ []; shut = 200 ∷ [] }

-- D. After both, take out place 0 with the keys 7 and 8: that it was taken out, with number 7; key 4 under 7; 7 under 8. A look then, and none before: y is open, and x is shut.
abbrev pub D : Row
D =
    record {
      before = put_x ∷ (whole 3 ++ (put_y ∷ whole 4));
      change = take_x;
      records = taking (at 0 0) 7 ∷ sealing (Key (at 0 1) 1 7 4) ∷ sealing (Key (at 1 0) 0 8 7) ∷ [];
      after = whole 3 ++ (looks ∷ []);
      chip = 8;
      opens = 200 ∷ [];
      shut = 100 ∷ [];
    }

-- E. The power fails after all records of the second put, and before the chip turns: the chip's key is 3 still, y never stood, and a look then opens x only.
abbrev pub E : Row
E = record { before = put_x ∷ whole 3; change = put_y; records = records_of_y; after = cut 4 ++ (looks ∷ []); chip = 3; opens = 100 ∷ []; shut = 200 ∷ [] }

-- F. After that another y is put in place 1 with the keys 7, 8 and 9: a look then opens x and that y. The records of the first y are written too, and stay shut.
abbrev pub F : Row
F =
    record {
      before = put_x ∷ (whole 3 ++ (put_y ∷ cut 4));
      change = put_other_y;
      records = sealing (Content (at 0 1) 0 7 201) ∷ sealing (Key (at 0 1) 1 8 7) ∷ sealing (Key (at 0 0) 0 8 1) ∷ sealing (Key (at 1 0) 0 9 8) ∷ [];
      after = whole 4 ++ (looks ∷ []);
      chip = 9;
      opens = 100 ∷ 201 ∷ [];
      shut = 200 ∷ [];
    }

abbrev pub rows : List Row
rows = A ∷ B ∷ C ∷ D ∷ E ∷ F ∷ []

abbrev pub Cases : Type 0
Cases = (r : Row) → Memᴰ r rows → Meets r

-- WHY KEYS MUST BE NEW. As in F, but the other y is put in with the keys 4, 5 and 6 of the put that was cut off. The first y stood at no look and can be opened. So this is no run that may be.
abbrev pub reusing : List (Act ℕ ℕ)
reusing = put_x ∷ (whole 3 ++ (put_y ∷ (cut 4 ++ (put_act 4 201 (listed (4 ∷ 5 ∷ 6 ∷ [])) 2 1 ∷ (whole 4 ++ (looks ∷ []))))))

pub record Reused : Type 0 where
  pub opens : OpenAt (run 2 reusing (start 0)) 200
  pub never_stood : (r : Tree ℕ ℕ) → Memᴰ r (run 2 reusing (start 0)).looks → Stands 2 r 200 → ⊥
  pub not_allowed : Allowed 2 0 reusing → ⊥
