-- The keys that a change draws, and their numbers.
use Rattle.std.proofs.Common.{◌≡◌, ℕ, zero, suc, ◌+◌, ◌<◌, ◌≤◌, List, length, Some, None, Option, refl, arith}
use Rattle.forgetting.specs.Change.{draws, counted}
use Rattle.forgetting.specs.Climb.{path_key}
use Rattle.shown.proofs.Editing.{lowest}
use Rattle.shown.proofs.Growing.{Fine}

-- The keys that are drawn have 32 bytes, and are numbered on from the last number.
pub counted_fine : (w : Option (List ℕ)) (last : ℕ) (keys : ℕ → List ℕ) (d h : ℕ) → ((j : ℕ) → j < draws w d → length (keys j) ≡ 32) → lowest w ≤ h → h ≤ d
    → (length (counted w last keys h).bytes ≡ 32) × (last < (counted w last keys h).number) × ((counted w last keys h).number ≤ last + draws w d)
counted_fine None last keys d zero long lo hi = absurd (omega arith)
counted_fine None last keys d (suc h) long lo hi = (long h (omega arith), omega arith, omega arith)
counted_fine (Some c) last keys d h long lo hi = (long h (omega arith), omega arith, omega arith)

pub counted_above : (w : Option (List ℕ)) (last : ℕ) (keys : ℕ → List ℕ) (h : ℕ) → (counted w last keys h).number < (counted w last keys (suc h)).number
counted_above None last keys h = omega arith
counted_above (Some c) last keys h = omega arith

pub lowest_suc : {C : Type 0} (w : Option C) (h : ℕ) → lowest w ≤ suc h
lowest_suc None h = omega arith
lowest_suc (Some c) h = omega arith

-- The new key of a node on the path is fine below the number of the one above it.
pub path_fine : (w : Option (List ℕ)) (last : ℕ) (keys : ℕ → List ℕ) (d h : ℕ) → ((j : ℕ) → j < draws w d → length (keys j) ≡ 32) → h < d
    → Fine (counted w last keys (suc h)).number (path_key w (counted w last keys) h)
path_fine None last keys d zero long l = tt
path_fine (Some c) last keys d zero long l =
    let f = counted_fine (Some c) last keys d 0 long (omega arith) (omega arith) in
    (f.0, omega arith, omega arith)
path_fine None last keys d (suc h) long l =
    let f = counted_fine None last keys d (suc h) long (omega arith) (omega arith) in
    (f.0, omega arith, omega arith)
path_fine (Some c) last keys d (suc h) long l =
    let f = counted_fine (Some c) last keys d (suc h) long (omega arith) (omega arith) in
    (f.0, omega arith, omega arith)

-- It has none only at a place that is taken out.
pub path_none : {C K : Type 0} (w : Option C) (keys : ℕ → K) (h : ℕ) → path_key w keys h ≡ None → h ≡ 0
path_none w keys zero e = refl
path_none None keys (suc h) e = cc
path_none (Some c) keys (suc h) e = cc
