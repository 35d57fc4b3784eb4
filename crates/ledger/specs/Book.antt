-- WHAT IS KEPT of a play: which put stands in each place, and which puts stood in some place at one of the looks.
use Rattle.std.specs.Prelude.{ℕ, suc, ◌^◌, Bool, true, false, cond, List, [], ◌∷◌, ◌++◌, length, replicate, Some, None, Option, nat_lt, slice_set}
use Rattle.ledger.specs.declared.moves.Move.{Move}
use Rattle.ledger.specs.declared.moves.Move.TheVariants.{Put, PutCut, Out, OutCut, Look}

pub record Book : Type 0 where
  pub standing : List (Option ℕ)
  pub seen : List Bool

abbrev pub sees : Option ℕ → List Bool → List Bool
sees None seen = seen
sees (Some c) seen = slice_set seen c true

-- A look sees what stands in the places.
abbrev pub looked : List (Option ℕ) → List Bool → List Bool
looked [] seen = seen
looked (o ∷ os) seen = looked os (sees o seen)

-- One move. A put has the number that there were puts before it.
abbrev pub played : Move → Book → Book
played (Put p) b = record { standing = slice_set b.standing p (Some (length b.seen)); seen = b.seen ++ false ∷ [] }
played (PutCut p n) b = record { standing = b.standing; seen = b.seen ++ false ∷ [] }
played (Out p) b = record { standing = slice_set b.standing p None; seen = b.seen }
played (OutCut p n) b = b
played Look b = record { standing = b.standing; seen = looked b.standing b.seen }

abbrev pub played_all : List Move → Book → Book
played_all [] b = b
played_all (m ∷ ms) b = played_all ms (played m b)

-- Of a store of d levels, from the empty one on.
abbrev pub blank : ℕ → Book
blank d = record { standing = replicate (2 ^ d) None; seen = [] }

abbrev pub after : (d : ℕ) → List Move → Book
after d ms = played_all ms (blank d)

-- How many puts there were, those that were cut off among them.
abbrev pub puts_in : List Move → ℕ
puts_in [] = 0
puts_in (Put p ∷ ms) = suc (puts_in ms)
puts_in (PutCut p n ∷ ms) = suc (puts_in ms)
puts_in (Out p ∷ ms) = puts_in ms
puts_in (OutCut p n ∷ ms) = puts_in ms
puts_in (Look ∷ ms) = puts_in ms

-- The place of each move is there.
abbrev pub there : ℕ → Move → Bool
there d (Put p) = nat_lt p (2 ^ d)
there d (PutCut p n) = nat_lt p (2 ^ d)
there d (Out p) = nat_lt p (2 ^ d)
there d (OutCut p n) = nat_lt p (2 ^ d)
there d Look = true

abbrev pub all_there : ℕ → List Move → Bool
all_there d [] = true
all_there d (m ∷ ms) = cond (there d m) (all_there d ms) false
