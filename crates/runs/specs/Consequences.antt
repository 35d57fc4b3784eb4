-- WHAT FOLLOWS FROM THE RULE, and what else holds of every run.
use Rattle.std.specs.Prelude.{◌≡◌, ℕ, ◌^◌, ◌<◌, ◌⊎◌, List, [], ◌∷◌, ◌++◌, Some, None, Option, ◌≢◌}
use mathlib.Core.List.{Memᴰ}
use Rattle.forgetting.specs.Secret.{Node, Sealed, Key, under, slot}
use Rattle.forgetting.specs.Tree.{Tree, place_in, content_of}
use Rattle.forgetting.specs.Change.{Edit, edited, Record, records, single}
use Rattle.forgetting.specs.History.{AtPlaces, root, History}
use Rattle.runs.specs.Moments.{busy, State, start, Act, starts, writes, turns, stops, looks, step, run, handed, Changes, Allowed, Stands, CanOpen, AllIn, Puts, NeverPut, put_act, out_act, unread}

-- ONE CHANGE TO ITS END. The change e begins after the acts before, and by the end of the acts during all its records are written.
abbrev pub AllWritten : {K C : Type 0} → (d : ℕ) (z : K) (before : List (Act K C)) (next : ℕ) (e : Edit K C) (during : List (Act K C)) → Type 0
AllWritten d z before next e during = (run d (before ++ (starts next e ∷ during)) (start z)).pending ≡ busy [] (edited e (run d before (start z)).tree)

-- The moment at which it is answered: the chip has the new root key.
abbrev pub answered : {K C : Type 0} → (d : ℕ) (z : K) (before : List (Act K C)) (next : ℕ) (e : Edit K C) (during : List (Act K C)) → State K C
answered d z before next e during = step d turns (run d (before ++ (starts next e ∷ during)) (start z))

-- The end of the acts after that. Its looks are those after the answer; all else is as in the whole run.
abbrev pub afterwards : {K C : Type 0} → (d : ℕ) (z : K) (before : List (Act K C)) (next : ℕ) (e : Edit K C) (during after : List (Act K C)) → State K C
afterwards d z before next e during after = run d after (unread (answered d z before next e during))

-- c stands in place p at most.
abbrev pub NowhereBut : {K C : Type 0} → (d p : ℕ) → Tree K C → C → Type 0
NowhereBut d p t c = (q : ℕ) → q < 2 ^ d → content_of (place_in d q t) ≡ Some c → q ≡ p

-- FORGOTTEN. Once the taking out of place p has been answered, a content that stood in no other place, and that no later change puts in, cannot be opened: not with the chip's keys at any number of looks after the answer, and all that was ever written, before and after.
abbrev pub Forgotten : (K C : Type 0) → Type 0
Forgotten K C =
    (d : ℕ) (z : K) (before : List (Act K C)) (next : ℕ) (keys : ℕ → K) (p : ℕ) (during after : List (Act K C)) → p < 2 ^ d →
    Allowed d z ((before ++ (out_act next keys d p ∷ during)) ++ (turns ∷ after)) → AllWritten d z before next (single None keys d p) during →
    (c : C) → NowhereBut d p (run d before (start z)).tree c → NeverPut c after →
    (rs : List (Tree K C)) → AllIn rs (afterwards d z before next (single None keys d p) during after).looks →
    CanOpen z rs (afterwards d z before next (single None keys d p) during after).written c → ⊥

-- REPLACED. The same once the putting of another content x in place p has been answered.
abbrev pub Replaced : (K C : Type 0) → Type 0
Replaced K C =
    (d : ℕ) (z : K) (before : List (Act K C)) (next : ℕ) (x : C) (keys : ℕ → K) (p : ℕ) (during after : List (Act K C)) → p < 2 ^ d →
    Allowed d z ((before ++ (put_act next x keys d p ∷ during)) ++ (turns ∷ after)) → AllWritten d z before next (single (Some x) keys d p) during →
    (c : C) → (x ≢ c) → NowhereBut d p (run d before (start z)).tree c → NeverPut c after →
    (rs : List (Tree K C)) → AllIn rs (afterwards d z before next (single (Some x) keys d p) during after).looks →
    CanOpen z rs (afterwards d z before next (single (Some x) keys d p) during after).written c → ⊥

-- PUT IN AFTER THE LAST LOOK. A content that was put in by no change that began before the last look cannot be opened with the chip's keys at the looks, and all that was ever written, before and after.
abbrev pub PutAfterLastLook : (K C : Type 0) → Type 0
PutAfterLastLook K C =
    (d : ℕ) (z : K) (before after : List (Act K C)) → Allowed d z (before ++ after) → (Memᴰ looks after → ⊥) → (c : C) → NeverPut c before →
    (rs : List (Tree K C)) → AllIn rs (run d (before ++ after) (start z)).looks → CanOpen z rs (run d (before ++ after) (start z)).written c → ⊥

-- ONCE. No key ever seals two things in one slot, that is under one nonce, records of changes that were cut off included.
abbrev pub Once : (K C : Type 0) → Type 0
Once K C =
    (d : ℕ) (z : K) (acts : List (Act K C)) → Allowed d z acts → (v w : Sealed K C) →
    Memᴰ v (run d acts (start z)).written → Memᴰ w (run d acts (start z)).written → under v ≡ under w → slot v ≡ slot w → v ≡ w

-- DRAWN. Every key that ever sealed something, and every key that was ever sealed, was drawn by a change of the run.
abbrev pub KeysDrawn : (K C : Type 0) → Type 0
KeysDrawn K C =
    (d : ℕ) (z : K) (acts : List (Act K C)) → ((w : Sealed K C) → Memᴰ w (run d acts (start z)).written → Memᴰ (under w) (handed acts))
    × ((at : Node) (s : ℕ) (u k : K) → Memᴰ (Key at s u k) (run d acts (start z)).written → Memᴰ k (handed acts))

-- EMPTIED. While no place holds anything, the chip's key opens nothing of all that was ever written.
abbrev pub Emptied : (K C : Type 0) → Type 0
Emptied K C =
    (d : ℕ) (z : K) (acts : List (Act K C)) → Allowed d z acts → ((p : ℕ) → p < 2 ^ d → content_of (place_in d p (run d acts (start z)).tree) ≡ None) →
    (c : C) → CanOpen z ((run d acts (start z)).tree ∷ []) (run d acts (start z)).written c → ⊥

-- ALL IS READ. At every moment, in the middle of a change and after a power cut too, the chip's key opens whatever stands in some place.
abbrev pub ReadsAll : (K C : Type 0) → Type 0
ReadsAll K C =
    (d : ℕ) (z : K) (acts : List (Act K C)) → Allowed d z acts → (c : C) → Stands d (run d acts (start z)).tree c →
    CanOpen z ((run d acts (start z)).tree ∷ []) (run d acts (start z)).written c

-- No change begins in these acts.
abbrev pub NoStarts : {K C : Type 0} → List (Act K C) → Type 0
NoStarts {K} {C} acts = Changes (λ (e : Edit K C). ⊥) acts

-- BEFORE OR AFTER. When the power fails at some moment after the beginning of a change, the tree is the one before the change, or the one after it.
abbrev pub BeforeOrAfter : (K C : Type 0) → Type 0
BeforeOrAfter K C =
    (d : ℕ) (s : State K C) (next : ℕ) (e : Edit K C) (during : List (Act K C)) → NoStarts during →
    ((run d (starts next e ∷ (during ++ (stops ∷ []))) s).tree ≡ s.tree) ⊎ ((run d (starts next e ∷ (during ++ (stops ∷ []))) s).tree ≡ edited e s.tree)

-- ANSWERED IS DONE. Once a change has been answered, the tree is the one after it, whatever power cuts follow, until another change begins.
abbrev pub AnsweredStays : (K C : Type 0) → Type 0
AnsweredStays K C =
    (d : ℕ) (z : K) (before : List (Act K C)) (next : ℕ) (e : Edit K C) (during after : List (Act K C)) → AllWritten d z before next e during → NoStarts after →
    (run d after (answered d z before next e during)).tree ≡ edited e (run d before (start z)).tree

-- A HISTORY OF WHOLE CHANGES. The tree at any moment of a run, whatever was cut off, is that of a history of changes that came to their end, with keys and records of the run. So what holds of the trees of histories holds of it.
abbrev pub OfHistory : (K C : Type 0) → Type 0
OfHistory K C =
    (d : ℕ) (z : K) (acts : List (Act K C)) → Allowed d z acts →
    (ks : List K) × (ws : List (Sealed K C)) × History d (run d acts (start z)).tree ks ws × AllIn ks (run d acts (start z)).drawn × AllIn ws (run d acts (start z)).written

-- A change comes to its end where each of its records is written.
abbrev pub writes_of : {K C : Type 0} → List (Record K C) → List (Act K C)
writes_of [] = []
writes_of (r ∷ rs) = writes ∷ writes_of rs

abbrev pub Finishes : (K C : Type 0) → Type 0
Finishes K C =
    (d : ℕ) (z : K) (before : List (Act K C)) (next : ℕ) (e : Edit K C) → AllWritten d z before next e (writes_of (records next (root d) e (run d before (start z)).tree))

-- THE CHANGE OF ONE PLACE, as the store makes it, is one that a run may make; and it puts in at most what it says.
abbrev pub OnePlace : (K C : Type 0) → Type 0
OnePlace K C =
    (w : Option C) (keys : ℕ → K) (d p : ℕ) → AtPlaces d (single w keys d p) × ((c : C) → Puts c (single w keys d p) → w ≡ Some c)
