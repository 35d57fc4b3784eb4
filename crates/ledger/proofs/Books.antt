-- What a book of moves has: a list of its places, and puts that there were.
use Rattle.std.proofs.Common.{◌≡◌, ℕ, zero, suc, ◌+◌, ◌^◌, ◌<◌, ◌≤◌, Bool, true, false, cond, ◌⊎◌, List, [], ◌∷◌, ◌++◌, length, get_or, set, Some, None, Option, sym, refl, ap, ◌∙◌, subst, inl, inr, suc-le-suc, zero-le, le_of_suc-le-suc, not-suc-le-zero, add-one, arith, length-append, length-set, get_or-set_other, get_or-set_same, ltb-true}
use lib.ListN.{length-replicate, get_or-replicate}
use Rattle.std.proofs.lemmas.Bool.{cases_eq}
use Rattle.forgetting.proofs.Members.{either}
use Rattle.runs.proofs.Closure.{none_not_some}
use Rattle.runs.proofs.Standing.{some_same}
use Rattle.ledger.specs.declared.moves.Move.{Move}
use Rattle.ledger.specs.declared.moves.Move.TheVariants.{Put, PutCut, Out, OutCut, Look}
use Rattle.ledger.specs.Book.{Book, puts_in, sees, looked, played, played_all, blank, after, there, all_there}

-- MOVES one after another.
pub played_more : (ms : List Move) (m : Move) (b : Book) → played_all (ms ++ m ∷ []) b ≡ played m (played_all ms b)
played_more [] m b = refl
played_more (x ∷ ms) m b = played_more ms m (played x b)

pub there_more : (d : ℕ) (ms : List Move) (m : Move) → all_there d ms ≡ true → there d m ≡ true → all_there d (ms ++ m ∷ []) ≡ true
there_more d [] m a h = ap (λ b. cond b true false) h
there_more d (x ∷ ms) m a h = go (there d x) a (λ e. there_more d ms m e h)
  where
    go : (b : Bool) → cond b (all_there d ms) false ≡ true → (all_there d ms ≡ true → all_there d (ms ++ m ∷ []) ≡ true) → cond b (all_there d (ms ++ m ∷ [])) false ≡ true
    go true e f = f e
    go false e f = e

false_not_true : {A : Type 0} → false ≡ true → A
false_not_true {A} e = subst (λ (b : Bool). cond b A (Unit {0})) e tt

-- Of a list of moves whose places are there: the first's is, and the rest's are.
pub record Both (d : ℕ) (m : Move) (ms : List Move) : Type 0 where
  pub first : there d m ≡ true
  pub rest : all_there d ms ≡ true

pub both : (d : ℕ) (m : Move) (ms : List Move) → all_there d (m ∷ ms) ≡ true → Both d m ms
both d m ms e = go (there d m) refl e
  where
    go : (b : Bool) → there d m ≡ b → cond b (all_there d ms) false ≡ true → Both d m ms
    go true f h = record { first = f; rest = h }
    go false f h = false_not_true h

-- WHAT IS SEEN. A put more, that nobody saw.
pub one_unseen : (seen : List Bool) (c : ℕ) → get_or (seen ++ false ∷ []) c false ≡ get_or seen c false
one_unseen [] zero = refl
one_unseen [] (suc c) = refl
one_unseen (x ∷ seen) zero = refl
one_unseen (x ∷ seen) (suc c) = one_unseen seen c

pub one_longer : {A : Type 0} (xs : List A) (x : A) → length (xs ++ x ∷ []) ≡ suc (length xs)
one_longer xs x = length-append xs (x ∷ []) ∙ add-one (length xs)

sees-length : (o : Option ℕ) (seen : List Bool) → length (sees o seen) ≡ length seen
sees-length None seen = refl
sees-length (Some c) seen = length-set seen c true

pub looked-length : (os : List (Option ℕ)) (seen : List Bool) → length (looked os seen) ≡ length seen
looked-length [] seen = refl
looked-length (o ∷ os) seen = looked-length os (sees o seen) ∙ sees-length o seen

pub looked_more : (os : List (Option ℕ)) (o : Option ℕ) (seen : List Bool) → looked (os ++ o ∷ []) seen ≡ sees o (looked os seen)
looked_more [] o seen = refl
looked_more (x ∷ os) o seen = looked_more os o (sees x seen)

-- What was seen stays so.
sees_keeps : (o : Option ℕ) (seen : List Bool) (c : ℕ) → get_or seen c false ≡ true → get_or (sees o seen) c false ≡ true
sees_keeps None seen c e = e
sees_keeps (Some x) seen c e = set_keeps seen x c e
  where
    set_keeps : (xs : List Bool) (i k : ℕ) → get_or xs k false ≡ true → get_or (set xs i true) k false ≡ true
    set_keeps [] i k f = f
    set_keeps (y ∷ xs) zero zero f = refl
    set_keeps (y ∷ xs) zero (suc k) f = f
    set_keeps (y ∷ xs) (suc i) zero f = f
    set_keeps (y ∷ xs) (suc i) (suc k) f = set_keeps xs i k f

pub looked_keeps : (os : List (Option ℕ)) (seen : List Bool) (c : ℕ) → get_or seen c false ≡ true → get_or (looked os seen) c false ≡ true
looked_keeps [] seen c e = e
looked_keeps (o ∷ os) seen c e = looked_keeps os (sees o seen) c (sees_keeps o seen c e)

-- What stands is seen.
pub looked-sees : (os : List (Option ℕ)) (seen : List Bool) (p c : ℕ) → c < length seen → p < length os → get_or os p None ≡ Some c → get_or (looked os seen) c false ≡ true
looked-sees [] seen p c l h e = absurd (not-suc-le-zero h)
looked-sees (o ∷ os) seen zero c l h e =
    looked_keeps os (sees o seen) c (subst (λ (x : Option ℕ). get_or (sees x seen) c false ≡ true) (sym e) (get_or-set_same seen c true false l))
looked-sees (o ∷ os) seen (suc p) c l h e = looked-sees os (sees o seen) p c (subst (λ (n : ℕ). c < n) (sym (sees-length o seen)) l) (le_of_suc-le-suc h) e

-- Nothing else is.
abbrev pub Sight : List (Option ℕ) → List Bool → ℕ → Type 0
Sight os seen c = (get_or seen c false ≡ true) ⊎ ((p : ℕ) × (p < length os) × (get_or os p None ≡ Some c))

sees-only : (o : Option ℕ) (seen : List Bool) (c : ℕ) → get_or (sees o seen) c false ≡ true → (o ≡ Some c) ⊎ (get_or seen c false ≡ true)
sees-only None seen c e = inr e
sees-only (Some x) seen c e = either (cases_eq c x) (λ f. inl (ap Some (sym f))) (λ f. inr (sym (get_or-set_other seen x c true false f) ∙ e))

further : (o : Option ℕ) (os : List (Option ℕ)) (seen : List Bool) (c : ℕ) → Sight os seen c → Sight (o ∷ os) seen c
further o os seen c (inl e) = inl e
further o os seen c (inr (p, l, e)) = inr (suc p, suc-le-suc l, e)

pub looked-only : (os : List (Option ℕ)) (seen : List Bool) (c : ℕ) → get_or (looked os seen) c false ≡ true → Sight os seen c
looked-only [] seen c e = inl e
looked-only (o ∷ os) seen c e =
    either (looked-only os (sees o seen) c e)
    (λ f. either (sees-only o seen c f) (λ g. inr (0, suc-le-suc zero-le, g)) (λ g. inl g))
    (λ f. further o os seen c (inr f))

-- SOUND: a book has each place, and the puts that stand in places are puts that there were.
pub record Sound (d : ℕ) (b : Book) : Type 0 where
  pub size : length b.standing ≡ 2 ^ d
  pub below : (p c : ℕ) → p < 2 ^ d → get_or b.standing p None ≡ Some c → c < length b.seen

pub sound_blank : (d : ℕ) → Sound d (blank d)
sound_blank d =
    record {
      size = length-replicate (2 ^ d) None;
      below = λ p c l e. absurd (none_not_some c (sym (get_or-replicate (2 ^ d) p None None l) ∙ e));
    }

-- A place set.
module _ (d : ℕ) (b : Book) (g : Sound d b) (p : ℕ) (here : p < 2 ^ d) (o : Option ℕ) where
  set_size : length (set b.standing p o) ≡ 2 ^ d
  set_size = length-set b.standing p o ∙ g.size

  pub set_here : get_or (set b.standing p o) p None ≡ o
  set_here = get_or-set_same b.standing p o None (subst (λ (n : ℕ). p < n) (sym g.size) here)

  set_below : (n : ℕ) → ((c : ℕ) → o ≡ Some c → c < n) → length b.seen ≤ n → (q c : ℕ) → q < 2 ^ d → get_or (set b.standing p o) q None ≡ Some c → c < n
  set_below n new more q c l e =
      either (cases_eq q p) (λ f. new c (sym set_here ∙ ap (λ x. get_or (set b.standing p o) x None) (sym f) ∙ e))
      (λ f. let h : c < length b.seen = g.below q c l (sym (get_or-set_other b.standing p q o None f) ∙ e) in omega arith)

pub sound_played : (d : ℕ) (m : Move) (b : Book) → there d m ≡ true → Sound d b → Sound d (played m b)
sound_played d (Put p) b h g =
    let n = one_longer b.seen false in
    record {
      size = set_size d b g p (ltb-true p (2 ^ d) h) (Some (length b.seen));
      below =
          set_below d b g p (ltb-true p (2 ^ d) h) (Some (length b.seen)) (length (b.seen ++ false ∷ []))
          (λ c e. let f : length b.seen ≡ c = some_same (length b.seen) c e in omega arith) (omega arith);
    }
sound_played d (PutCut p n) b h g = record { size = g.size; below = λ q c l e. let x : c < length b.seen = g.below q c l e in let m = one_longer b.seen false in omega arith }
sound_played d (Out p) b h g =
    record {
      size = set_size d b g p (ltb-true p (2 ^ d) h) None;
      below = set_below d b g p (ltb-true p (2 ^ d) h) None (length b.seen) (λ c e. absurd (none_not_some c e)) (omega arith);
    }
sound_played d (OutCut p n) b h g = g
sound_played d Look b h g = record { size = g.size; below = λ q c l e. subst (λ (n : ℕ). c < n) (sym (looked-length b.standing b.seen)) (g.below q c l e) }

sound_all : (d : ℕ) (ms : List Move) (b : Book) → all_there d ms ≡ true → Sound d b → Sound d (played_all ms b)
sound_all d [] b h g = g
sound_all d (m ∷ ms) b h g = let x = both d m ms h in sound_all d ms (played m b) x.rest (sound_played d m b x.first g)

pub sound : (d : ℕ) (ms : List Move) → all_there d ms ≡ true → Sound d (after d ms)
sound d ms h = sound_all d ms (blank d) h (sound_blank d)

-- Each put has its place among those seen or not.
counted-all : (ms : List Move) (b : Book) → length (played_all ms b).seen ≡ puts_in ms + length b.seen
counted-all [] b = omega arith
counted-all (Put p ∷ ms) b = let e = counted-all ms (played (Put p) b) in let n = one_longer b.seen false in omega arith
counted-all (PutCut p k ∷ ms) b = let e = counted-all ms (played (PutCut p k) b) in let n = one_longer b.seen false in omega arith
counted-all (Out p ∷ ms) b = counted-all ms (played (Out p) b)
counted-all (OutCut p k ∷ ms) b = counted-all ms b
counted-all (Look ∷ ms) b = let e = counted-all ms (played Look b) in let n = looked-length b.standing b.seen in omega arith

pub counted : (d : ℕ) (ms : List Move) (seen : List Bool) → seen ≡ (after d ms).seen → length seen ≡ puts_in ms
counted d ms seen e = let f = ap length e in let g = counted-all ms (blank d) in omega arith
