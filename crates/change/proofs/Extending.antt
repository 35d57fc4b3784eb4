-- One write after another.
use Rattle.std.proofs.Common.{◌≡◌, ℕ, ◌≤◌, true, false, cond, List, ◌++◌, length, take, is_ok, is_err, Ok, Err, Result, sym, refl, ap, ◌∙◌, arith}
use borrow.Author.Tests.{clash}
use Rattle.std.proofs.lemmas.List.{append_assoc, take_at, take_all, take-take, length-append}
use Rattle.change.specs.Nodes.{Kept, Extends}

kept_same : (before : List ℕ) → Kept before before
kept_same before = take_all (length before) before (omega arith)

kept_more : (before added : List ℕ) → Kept before (before ++ added)
kept_more before added = take_at before added (length before) refl

-- A write that changes nothing where it fails.
pub extends_from : {X E : Type 0} (r : Result X E) (before added after : List ℕ) → after ≡ cond (is_ok r) (before ++ added) before → Extends r before added after
extends_from (Ok x) before added after e = e
extends_from (Err x) before added after e = rw e (kept_same before)

-- What was written so far, and then a turn that was done; and one that failed.
pub extends_more : (before one other mid after : List ℕ) → mid ≡ before ++ one → after ≡ mid ++ other → after ≡ before ++ (one ++ other)
extends_more before one other mid after m e = e ∙ ap (λ (l : List ℕ). l ++ other) m ∙ append_assoc before one other

pub kept_then : (before one mid after : List ℕ) → mid ≡ before ++ one → Kept mid after → Kept before after
kept_then before one mid after m k =
    let l = length-append before one in
    let n : length before ≤ length mid = rw m (omega arith) in
    sym (take-take (length before) (length mid) after n) ∙ ap (take (length before)) (k ∙ m) ∙ kept_more before one

-- A write after one that was done.
pub extends_then : {X E : Type 0} (r : Result X E) (before one other mid after : List ℕ) → mid ≡ before ++ one → Extends r mid other after → Extends r before (one ++ other) after
extends_then (Ok x) before one other mid after m e = extends_more before one other mid after m e
extends_then (Err x) before one other mid after m e = kept_then before one mid after m e

-- A write that failed.
pub extends_failed : {T E : Type 0} (r : Result T E) (before added after : List ℕ) → is_err r ≡ true → Kept before after → Extends r before added after
extends_failed (Ok x) before added after b k = absurd (clash b)
extends_failed (Err x) before added after b k = k

pub kept_failed : (before after : List ℕ) → after ≡ before → Kept before after
kept_failed before after e = rw e (kept_same before)

-- A write that was done.
pub extends_done : {X E : Type 0} (r : Result X E) (before added after : List ℕ) → is_err r ≡ false → Extends r before added after → after ≡ before ++ added
extends_done (Ok x) before added after f e = e
extends_done (Err x) before added after f e = absurd (clash (sym f))
