-- What the calls of a ledger come to.
use Rattle.std.specs.Prelude.{◌≡◌, ℕ, ◌^◌, ◌<◌, ◌≤◌, List, [], ◌∷◌, ◌++◌, Ok, Err, Option, Result}
use Rattle.ledger.specs.declared.moves.Move.{Move}
use Rattle.ledger.specs.declared.answer.Failure.{Failure}
use Rattle.ledger.specs.declared.answer.Failure.TheVariants.{NoSuchPlace, Memory}
use Rattle.ledger.specs.Play.{HoldsThen}

-- Why: there is no such place; or there is, and no memory was left.
abbrev pub Why : (levels place : ℕ) → Failure → Type 0
Why levels place NoSuchPlace = 2 ^ levels ≤ place
Why levels place Memory = place < 2 ^ levels

-- The move is noted, or none is.
abbrev pub Noted : {A : Type 0} → (levels place : ℕ) (move : Move) (before after : List Move) → (A → Type 0) → Result A Failure → Type 0
Noted levels place move before after P (Ok a) = (place < 2 ^ levels) × (after ≡ before ++ move ∷ []) × P a
Noted levels place move before after P (Err e) = (after ≡ before) × Why levels place e

-- What stands in the place, or that there is no such place.
abbrev pub Standing : (levels : ℕ) → List Move → (place : ℕ) → Result (Option ℕ) Failure → Type 0
Standing levels moves place (Ok o) = (place < 2 ^ levels) × HoldsThen levels moves place o
Standing levels moves place (Err e) = (2 ^ levels ≤ place) × (e ≡ NoSuchPlace)
