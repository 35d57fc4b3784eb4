-- Laws of logs.
use Rattle.std.proofs.Common.{◌≡◌, ℕ, List, [], ◌∷◌, ◌++◌, take, sym, refl, ap, ◌∙◌}
use Rattle.devices.specs.Events.{Event, appended, synced, cut, got, held, changes, StandsAt, Faithful}

-- What a medium has is what it was changed to.
pub held-changes : (first : List ℕ) (log : List Event) → held first (changes log) ≡ held first log
unfolding held changes
held-changes first [] = refl
held-changes first (appended bytes ∷ log) = ap (λ b. b ++ bytes) (held-changes first log)
held-changes first (synced ∷ log) = held-changes first log
held-changes first (cut n ∷ log) = ap (take n) (held-changes first log)
held-changes first (got offset bytes ∷ log) = held-changes first log

pub same-held : (first : List ℕ) (a b : List Event) → changes a ≡ changes b → held first a ≡ held first b
same-held first a b e = sym (held-changes first a) ∙ ap (held first) e ∙ held-changes first b

pub changes-got : (offset : ℕ) (bytes : List ℕ) (log : List Event) → changes (got offset bytes ∷ log) ≡ changes log
unfolding changes
changes-got offset bytes log = refl

pub faithful_got : (first : List ℕ) (offset : ℕ) (bytes : List ℕ) (log : List Event) → Faithful first (got offset bytes ∷ log) → StandsAt (held first log) offset bytes × Faithful first log
unfolding Faithful
faithful_got first offset bytes log f = f

-- Records that were written and synced.
pub held-written : (first records : List ℕ) (log : List Event) → held first (synced ∷ (appended records ∷ log)) ≡ held first log ++ records
unfolding held
held-written first records log = refl

pub changes-written : (records : List ℕ) (log : List Event) → changes (appended records ∷ log) ≡ appended records ∷ changes log
unfolding changes
changes-written records log = refl

pub changes-synced : (log : List Event) → changes (synced ∷ log) ≡ synced ∷ changes log
unfolding changes
changes-synced log = refl

pub faithful_written : (first records : List ℕ) (log : List Event) → Faithful first (appended records ∷ log) → Faithful first log
unfolding Faithful
faithful_written first records log f = f

pub faithful_synced : (first : List ℕ) (log : List Event) → Faithful first (synced ∷ log) → Faithful first log
unfolding Faithful
faithful_synced first log f = f
