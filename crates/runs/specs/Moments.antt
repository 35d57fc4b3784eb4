-- THE STORE MOMENT BY MOMENT: a change begins, its records are written one after another, the chip gets the new root key; and at any moment the power may fail, or somebody may read the chip.
use Rattle.std.specs.Prelude.{◌≡◌, ℕ, ◌^◌, ◌<◌, ◌⊎◌, List, [], ◌∷◌, ◌++◌, map, Some, None, Option}
use mathlib.Core.List.{Memᴰ}
use Rattle.forgetting.specs.Secret.{Sealed, Opens}
use Rattle.forgetting.specs.Tree.{Tree, bare, key_of, place_in, content_of}
use Rattle.forgetting.specs.Change.{Edit, same, puts, takes, fork, edited, drawn, Record, things, records, single}
use Rattle.forgetting.specs.Lawful.{Apart}
use Rattle.forgetting.specs.History.{AtPlaces, root}

-- idle: no change is under way. busy: one is, with the records that it has still to write and the tree that it makes.
pub data Pending (K C : Type 0) : Type 0 where
  idle : Pending K C
  busy : (left : List (Record K C)) (after : Tree K C) → Pending K C

-- tree: the one to whose root the chip's key belongs. written: all that was ever sealed on the medium, by changes that were cut off too. drawn: all keys ever drawn, by changes that were cut off too, and the zeros that the chip has at first. looks: the tree at each reading of the chip.
pub record State (K C : Type 0) : Type 0 where
  pub tree : Tree K C
  pub pending : Pending K C
  pub written : List (Sealed K C)
  pub drawn : List K
  pub looks : List (Tree K C)

-- The empty store. z: the zeros that the chip has at first.
abbrev pub start : {K C : Type 0} → (z : K) → State K C
start z = record { tree = bare; pending = idle; written = []; drawn = z ∷ []; looks = [] }

-- The chip's key: that of the root, or the zeros as long as the root has none.
abbrev pub key_or : {K : Type 0} → K → Option K → K
key_or z None = z
key_or z (Some k) = k

abbrev pub chip_key : {K C : Type 0} → (z : K) → Tree K C → K
chip_key z t = key_or z (key_of t)

-- starts: the change e begins; next is the number that the next key will have. writes: the next record of the change under way is written. turns: the chip gets the new root key. stops: the power fails, and the change under way is broken off. looks: somebody reads the chip.
pub data Act (K C : Type 0) : Type 0 where
  starts : (next : ℕ) (e : Edit K C) → Act K C
  writes : Act K C
  turns : Act K C
  stops : Act K C
  looks : Act K C

-- One record more, as far as one is left.
abbrev pub wrote : {K C : Type 0} → State K C → Pending K C → State K C
wrote s idle = s
wrote s (busy [] t) = s
wrote s (busy (r ∷ rs) t) = record { tree = s.tree; pending = busy rs t; written = s.written ++ things (r ∷ []); drawn = s.drawn; looks = s.looks }

-- The new root key, once no record is left; before that nothing happens.
abbrev pub turned : {K C : Type 0} → State K C → Pending K C → State K C
turned s idle = s
turned s (busy [] t) = record { tree = t; pending = idle; written = s.written; drawn = s.drawn; looks = s.looks }
turned s (busy (r ∷ rs) t) = s

-- One act, in a store of d levels.
abbrev pub step : {K C : Type 0} → (d : ℕ) → Act K C → State K C → State K C
step d (starts next e) s =
    record { tree = s.tree; pending = busy (records next (root d) e s.tree) (edited e s.tree); written = s.written; drawn = drawn e ++ s.drawn; looks = s.looks }
step d writes s = wrote s s.pending
step d turns s = turned s s.pending
step d stops s = record { tree = s.tree; pending = idle; written = s.written; drawn = s.drawn; looks = s.looks }
step d looks s = record { tree = s.tree; pending = s.pending; written = s.written; drawn = s.drawn; looks = s.tree ∷ s.looks }

abbrev pub run : {K C : Type 0} → (d : ℕ) → List (Act K C) → State K C → State K C
run d [] s = s
run d (a ∷ acts) s = run d acts (step d a s)

-- All keys drawn by the changes that begin in these acts, whether they come to their end or not.
abbrev pub handed : {K C : Type 0} → List (Act K C) → List K
handed [] = []
handed (starts next e ∷ acts) = drawn e ++ handed acts
handed (writes ∷ acts) = handed acts
handed (turns ∷ acts) = handed acts
handed (stops ∷ acts) = handed acts
handed (looks ∷ acts) = handed acts

-- P holds of each change that begins in these acts.
abbrev pub Changes : {K C : Type 0} → (P : Edit K C → Type 0) → List (Act K C) → Type 0
Changes P [] = Unit {0}
Changes P (starts next e ∷ acts) = P e × Changes P acts
Changes P (writes ∷ acts) = Changes P acts
Changes P (turns ∷ acts) = Changes P acts
Changes P (stops ∷ acts) = Changes P acts
Changes P (looks ∷ acts) = Changes P acts

-- WHAT A RUN MUST KEEP TO: each change is one of places d levels down, and every key is new: no two keys drawn in the whole run are the same, and none is the zeros.
pub record Allowed {K C : Type 0} (d : ℕ) (z : K) (acts : List (Act K C)) : Type 0 where
  pub places : Changes (AtPlaces d) acts
  pub new : Apart (z ∷ handed acts)

-- Some place holds c.
abbrev pub Stands : {K C : Type 0} → (d : ℕ) → Tree K C → C → Type 0
Stands d t c = (p : ℕ) × (p < 2 ^ d) × (content_of (place_in d p t) ≡ Some c)

-- c stood in some place at one of these looks.
abbrev pub Stood : {K C : Type 0} → (d : ℕ) → List (Tree K C) → C → Type 0
Stood {K} {C} d rs c = (r : Tree K C) × Memᴰ r rs × Stands d r c

-- c can be opened with the chip's keys at these looks and all that was written.
abbrev pub CanOpen : {K C : Type 0} → (z : K) → List (Tree K C) → (written : List (Sealed K C)) → C → Type 0
CanOpen z rs ws c = Opens (map (chip_key z) rs) ws c

-- Each of xs is one of ys.
abbrev pub AllIn : {A : Type 0} → (xs ys : List A) → Type 0
AllIn {A} xs ys = (x : A) → Memᴰ x xs → Memᴰ x ys

-- A change puts c into some place.
abbrev pub Puts : {K C : Type 0} → C → Edit K C → Type 0
Puts c same = ⊥
Puts c (puts k x) = c ≡ x
Puts c takes = ⊥
Puts c (fork k a b) = Puts c a ⊎ Puts c b

-- No change that begins in these acts puts c in.
abbrev pub NeverPut : {K C : Type 0} → C → List (Act K C) → Type 0
NeverPut {K} {C} c acts = Changes (λ (e : Edit K C). Puts c e → ⊥) acts

-- THE CHANGES THAT THE STORE MAKES, of one place: c is put in place p, or what is there is taken out. keys h: the new key of the node h levels above the place.
abbrev pub put_act : {K C : Type 0} → (next : ℕ) (c : C) (keys : ℕ → K) (d p : ℕ) → Act K C
put_act next c keys d p = starts next (single (Some c) keys d p)

abbrev pub out_act : {K C : Type 0} → (next : ℕ) (keys : ℕ → K) (d p : ℕ) → Act K C
out_act next keys d p = starts next (single None keys d p)

-- The same moment, as if there had been no look so far: the looks from here on are those of a run from here.
abbrev pub unread : {K C : Type 0} → State K C → State K C
unread s = record { tree = s.tree; pending = s.pending; written = s.written; drawn = s.drawn; looks = [] }
