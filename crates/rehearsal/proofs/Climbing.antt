-- One turn up.
use Rattle.std.proofs.Common.{◌≡◌, ℕ, suc, ◌+◌, ◌-◌, ◌/◌, ◌<◌, List, set, Some, Option, refl, arith}
use Rattle.rehearsal.specs.Numbers.{climbed}

pub climbed_more : (end before node : ℕ) (numbers : List (Option ℕ)) → before < end → climbed (end - before) node before numbers ≡ climbed (end - (before + 1)) (node / 2) (before + 1) (set numbers (node / 2) (Some (before + 1)))
unfolding climbed
climbed_more end before node numbers lt =
    let e : end - before ≡ suc (end - (before + 1)) = omega arith in
    rw e refl

pub climbed-done : (node last : ℕ) (numbers : List (Option ℕ)) → climbed 0 node last numbers ≡ numbers
unfolding climbed
climbed-done node last numbers = refl
