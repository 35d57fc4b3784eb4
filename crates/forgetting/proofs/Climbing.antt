-- Going up from the place, level by level, writes the records of the change.
use Rattle.std.proofs.Common.{◌≡◌, ℕ, zero, suc, ◌+◌, ◌-◌, ◌*◌, ◌/◌, ◌%◌, ◌^◌, ◌<◌, Bool, true, false, List, ◌++◌, Some, None, Option, sym, refl, ap, ◌∙◌, pow-suc, arith, eq-eqb, ne_eqb, eqb-true}
use native.Mathlib.Nat.{div-div-eq-div-mul}
use borrow.Author.Tests.{eqb-false}
use Rattle.std.proofs.lemmas.List.{append-nil}
use Rattle.forgetting.specs.Tree.{Tree, key_of, even_of, odd_of, to_even, turn}
use Rattle.forgetting.specs.Change.{Edit, same, fork, edited, Record, is_same, records, towards, single}
use Rattle.forgetting.specs.Climb.{path_node, sibling_key, path_key, turn_records, climbed, Climbs}

-- The change of one place changes something, and leaves the new key at its top.
towards-changes : {K C : Type 0} (b : Bool) (k : K) (e : Edit K C) → is_same (towards b k e) ≡ false
towards-changes true k e = refl
towards-changes false k e = refl

single-changes : {K C : Type 0} (w : Option C) (keys : ℕ → K) (d p : ℕ) → is_same (single w keys d p) ≡ false
single-changes None keys zero p = refl
single-changes (Some c) keys zero p = refl
single-changes w keys (suc d) p = towards-changes (to_even d p) (keys (suc d)) (single w keys d p)

towards-key : {K C : Type 0} (b : Bool) (k : K) (e : Edit K C) (t : Tree K C) → key_of (edited (towards b k e) t) ≡ Some k
towards-key true k e t = refl
towards-key false k e t = refl

pub single-key : {K C : Type 0} (w : Option C) (keys : ℕ → K) (d p : ℕ) (t : Tree K C) → key_of (edited (single w keys d p) t) ≡ path_key w keys d
single-key None keys zero p t = refl
single-key (Some c) keys zero p t = refl
single-key None keys (suc d) p t = towards-key (to_even d p) (keys (suc d)) (single None keys d p) t
single-key (Some c) keys (suc d) p t = towards-key (to_even d p) (keys (suc d)) (single (Some c) keys d p) t

-- The index of the node one level up.
half : (p d : ℕ) → p / 2 ^ suc d ≡ p / 2 ^ d / 2
half p d = rw (pow-suc 2 d) (sym (div-div-eq-div-mul p (2 ^ d) 2))

even_child : (p d : ℕ) → to_even d p ≡ true → 2 * (p / 2 ^ suc d) + 0 ≡ p / 2 ^ d
even_child p d e = let z = eqb-true (p / 2 ^ d % 2) 0 e in rw (half p d) (omega arith)

even_sibling : (p d : ℕ) → to_even d p ≡ true → 2 * (p / 2 ^ suc d) + 1 ≡ p / 2 ^ d + 1
even_sibling p d e = let z = eqb-true (p / 2 ^ d % 2) 0 e in rw (half p d) (omega arith)

odd_child : (p d : ℕ) → to_even d p ≡ false → 2 * (p / 2 ^ suc d) + 1 ≡ p / 2 ^ d
odd_child p d e = let z = eqb-false (p / 2 ^ d % 2) 0 e in rw (half p d) (omega arith)

odd_sibling : (p d : ℕ) → to_even d p ≡ false → 2 * (p / 2 ^ suc d) + 0 ≡ p / 2 ^ d - 1
odd_sibling p d e = let z = eqb-false (p / 2 ^ d % 2) 0 e in rw (half p d) (omega arith)

-- Turns below h depend on the siblings' keys below h only.
pub climbed-same : {K C : Type 0} (next p : ℕ) (w : Option C) (keys : ℕ → K) (one other : ℕ → Option K) (h : ℕ) → ((i : ℕ) → i < h → one i ≡ other i)
    → climbed next p w keys one h ≡ climbed next p w keys other h
unfolding climbed
climbed-same next p w keys one other zero f = refl
climbed-same next p w keys one other (suc h) f =
    rw (climbed-same next p w keys one other h (λ i l. f i (omega arith)), f h (omega arith))

-- One level more, to the even and to the odd side: what a turn writes follows what was written below.
fork_even : {K C : Type 0} (next : ℕ) (w : Option C) (keys : ℕ → K) (d p : ℕ) (t : Tree K C) → to_even d p ≡ true
    → records next (path_node p (suc d)) (fork (keys (suc d)) (single w keys d p) same) t
    ≡ records next (path_node p d) (single w keys d p) (even_of t) ++ turn_records p w keys (key_of (odd_of t)) d
fork_even next w keys d p t e =
    rw (e, even_child p d e, even_sibling p d e, single-changes w keys d p, single-key w keys d p (even_of t), append-nil (records next (path_node p d) (single w keys d p) (even_of t)))

fork_odd : {K C : Type 0} (next : ℕ) (w : Option C) (keys : ℕ → K) (d p : ℕ) (t : Tree K C) → to_even d p ≡ false
    → records next (path_node p (suc d)) (fork (keys (suc d)) same (single w keys d p)) t
    ≡ records next (path_node p d) (single w keys d p) (odd_of t) ++ turn_records p w keys (key_of (even_of t)) d
fork_odd next w keys d p t e = rw (e, odd_child p d e, odd_sibling p d e, single-key w keys d p (odd_of t))

-- Of a tree of one level more: the siblings' keys below the top, and the one at the top.
sibling_below : {K C : Type 0} (d p h : ℕ) (t : Tree K C) → h < d → sibling_key (suc d) p h t ≡ sibling_key d p h (turn (to_even d p) (even_of t) (odd_of t))
sibling_below d p h t l = rw (ne_eqb h d (λ e. omega arith))

sibling_top : {K C : Type 0} (d p : ℕ) (t : Tree K C) → sibling_key (suc d) p d t ≡ key_of (turn (to_even d p) (odd_of t) (even_of t))
sibling_top d p t = rw (eq-eqb d d refl)

climb_on : {K C : Type 0} (next : ℕ) (w : Option C) (keys : ℕ → K) (d p : ℕ) (t : Tree K C) (b : Bool) → to_even d p ≡ b
    → records next (path_node p (suc d)) (towards b (keys (suc d)) (single w keys d p)) t
    ≡ records next (path_node p d) (single w keys d p) (turn b (even_of t) (odd_of t)) ++ turn_records p w keys (key_of (turn b (odd_of t) (even_of t))) d
climb_on next w keys d p t true e = fork_even next w keys d p t e
climb_on next w keys d p t false e = fork_odd next w keys d p t e

pub climbs : (K C : Type 0) → Climbs K C
unfolding climbed
climbs K C next None keys zero p t = refl
climbs K C next (Some c) keys zero p t = refl
climbs K C next w keys (suc d) p t =
    climb_on next w keys d p t (to_even d p) refl
    ∙ ap (λ (x : List (Record K C)). x ++ turn_records p w keys (key_of (turn (to_even d p) (odd_of t) (even_of t))) d)
    (climbs K C next w keys d p (turn (to_even d p) (even_of t) (odd_of t))
    ∙ sym (climbed-same next p w keys (λ h. sibling_key (suc d) p h t) (λ h. sibling_key d p h (turn (to_even d p) (even_of t) (odd_of t))) d (λ i l. sibling_below d p i t l)))
    ∙ ap (λ (x : Option K). climbed next p w keys (λ h. sibling_key (suc d) p h t) d ++ turn_records p w keys x d) (sym (sibling_top d p t))
