-- WHAT CAN BE OPENED, of any run.
use Rattle.std.specs.Prelude.{◌≡◌, ℕ, List, ◌++◌}
use Rattle.forgetting.specs.Tree.{Tree, Holds, Levels}
use Rattle.runs.specs.Moments.{State, start, Act, run, Allowed, Stands, Stood, CanOpen, AllIn, unread}

-- THE RULE. Of any run from the empty store, and any of its looks: with the chip's keys at those looks and all that was ever written, just those contents can be opened that stood in some place at one of them.
abbrev pub Rule : (K C : Type 0) → Type 0
Rule K C =
    (d : ℕ) (z : K) (acts : List (Act K C)) → Allowed d z acts → (rs : List (Tree K C)) → AllIn rs (run d acts (start z)).looks → (c : C) →
    (CanOpen z rs (run d acts (start z)).written c → Stood d rs c) × (Stood d rs c → CanOpen z rs (run d acts (start z)).written c)

-- Where a tree of d levels holds a content, some place does, and the other way round.
abbrev pub HeldAtPlaces : (K C : Type 0) → Type 0
HeldAtPlaces K C = (d : ℕ) (t : Tree K C) → Levels d t → (c : C) → (Holds t c → Stands d t c) × (Stands d t c → Holds t c)

-- The looks from a moment on are those of a run from there as if there had been none before, and all else is as it is.
abbrev pub LooksFrom : (K C : Type 0) → Type 0
LooksFrom K C =
    (d : ℕ) (acts : List (Act K C)) (s : State K C) → ((run d acts s).looks ≡ (run d acts (unread s)).looks ++ s.looks)
    × ((run d acts s).written ≡ (run d acts (unread s)).written) × ((run d acts s).tree ≡ (run d acts (unread s)).tree)
