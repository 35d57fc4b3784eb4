-- THE RUN THAT A PLAY IS, for any keys, and what can be opened by it.
use Rattle.std.specs.Prelude.{◌≡◌, ℕ, zero, suc, List, [], ◌∷◌, ◌++◌, Some, None, Option, ◌≢◌}
use Rattle.forgetting.specs.Tree.{Tree, bare, place_in, content_of}
use Rattle.forgetting.specs.Change.{Edit, edited, records, single}
use Rattle.forgetting.specs.History.{root}
use Rattle.runs.specs.Moments.{State, start, Act, starts, writes, turns, stops, looks, run, Allowed, CanOpen}
use Rattle.runs.specs.Consequences.{writes_of}
use Rattle.ledger.specs.declared.moves.Move.{Move}
use Rattle.ledger.specs.declared.moves.Move.TheVariants.{Put, PutCut, Out, OutCut, Look}
use Rattle.ledger.specs.declared.answer.Verdict.{Verdict}
use Rattle.ledger.specs.declared.answer.Verdict.TheVariants.{Open, Shut}

-- A change made to its end, in a tree t: all its records are written, and the chip gets its new key.
abbrev pub whole : {K : Type 0} → (d : ℕ) → Edit K ℕ → Tree K ℕ → List (Act K ℕ)
whole d e t = starts 0 e ∷ (writes_of (records 0 (root d) e t) ++ turns ∷ [])

-- A change during which the power is cut, after n of its records, or all of them where it has fewer.
abbrev pub some_writes : {K : Type 0} → ℕ → List (Act K ℕ)
some_writes zero = []
some_writes (suc n) = writes ∷ some_writes n

abbrev pub broken : {K : Type 0} → Edit K ℕ → ℕ → List (Act K ℕ)
broken e n = starts 0 e ∷ (some_writes n ++ stops ∷ [])

-- The acts of some moves. keys j h: the key that change j of the play gives the node h levels above its place. j changes and i puts were begun before, and the tree is t. The content of a put is its number.
abbrev pub acts_from : {K : Type 0} → (d : ℕ) (keys : ℕ → ℕ → K) (j i : ℕ) (t : Tree K ℕ) → List Move → List (Act K ℕ)
acts_from d keys j i t [] = []
acts_from d keys j i t (Put p ∷ ms) = whole d (single (Some i) (keys j) d p) t ++ acts_from d keys (suc j) (suc i) (edited (single (Some i) (keys j) d p) t) ms
acts_from d keys j i t (PutCut p n ∷ ms) = broken (single (Some i) (keys j) d p) n ++ acts_from d keys (suc j) (suc i) t ms
acts_from d keys j i t (Out p ∷ ms) = whole d (single None (keys j) d p) t ++ acts_from d keys (suc j) i (edited (single None (keys j) d p) t) ms
acts_from d keys j i t (OutCut p n ∷ ms) = broken (single None (keys j) d p) n ++ acts_from d keys (suc j) i t ms
acts_from d keys j i t (Look ∷ ms) = looks ∷ acts_from d keys j i t ms

abbrev pub acts_of : {K : Type 0} → (d : ℕ) (keys : ℕ → ℕ → K) → List Move → List (Act K ℕ)
acts_of d keys ms = acts_from d keys 0 0 bare ms

-- The store at the end. z: the zeros that the chip has at first.
abbrev pub end_of : {K : Type 0} → (d : ℕ) (z : K) (keys : ℕ → ℕ → K) → List Move → State K ℕ
end_of d z keys ms = run d (acts_of d keys ms) (start z)

-- Put c can be opened with the chip's keys at all looks and all that was ever written, whatever the keys, which are strings of bytes, each a new one.
abbrev pub IsOpen : (d : ℕ) → List Move → ℕ → Type 0
IsOpen d ms c = (z : List ℕ) (keys : ℕ → ℕ → List ℕ) → Allowed d z (acts_of d keys ms) → CanOpen z (end_of d z keys ms).looks (end_of d z keys ms).written c

-- It cannot.
abbrev pub IsShut : (d : ℕ) → List Move → ℕ → Type 0
IsShut d ms c = (z : List ℕ) (keys : ℕ → ℕ → List ℕ) → Allowed d z (acts_of d keys ms) → CanOpen z (end_of d z keys ms).looks (end_of d z keys ms).written c → ⊥

abbrev pub Right : (d : ℕ) → List Move → ℕ → Verdict → Type 0
Right d ms c Open = IsOpen d ms c
Right d ms c Shut = IsShut d ms c

-- Place p holds o, whatever the keys.
abbrev pub HoldsThen : (d : ℕ) → List Move → (p : ℕ) → Option ℕ → Type 0
HoldsThen d ms p o = (z : List ℕ) (keys : ℕ → ℕ → List ℕ) → content_of (place_in d p (end_of d z keys ms).tree) ≡ o

-- KEYS THAT ARE ALL NEW: no two are the same, and none is the zeros.
pub record Fresh (z : List ℕ) (keys : ℕ → ℕ → List ℕ) : Type 0 where
  pub apart : (j h j' h' : ℕ) → keys j h ≡ keys j' h' → (j ≡ j') × (h ≡ h')
  pub not_zeros : (j h : ℕ) → keys j h ≢ z

-- With such keys the run of every play is one that may be.
abbrev pub FreshAllowed : Type 0
FreshAllowed = (d : ℕ) (ms : List Move) (z : List ℕ) (keys : ℕ → ℕ → List ℕ) → Fresh z keys → Allowed d z (acts_of d keys ms)

-- There are such keys; so a verdict is never both.
abbrev pub SomeFresh : Type 0
SomeFresh = (z : List ℕ) × (keys : ℕ → ℕ → List ℕ) × Fresh z keys
