-- The cases, by a test that is computed for each row.
use Rattle.std.proofs.Common.{◌≡◌, ℕ, zero, suc, Bool, true, false, not, ◌&&◌, ◌||◌, eqb, List, [], ◌∷◌, sym, refl, ap, ◌∙◌, subst, inl, inr}
use mathlib.Core.List.{Memᴰ}
use Rattle.std.proofs.lemmas.Bool.{eqb-true, eqb-false, and_parts, or_cases, or_parts, not-true, both_ways}
use Rattle.forgetting.specs.Secret.{had_it, opened, by}
use Rattle.forgetting.specs.Tree.{Tree, bare, leaf, node, Holds}
use Rattle.forgetting.specs.Change.{Edit, same, puts, takes, fork}
use Rattle.forgetting.specs.Lawful.{Apart}
use Rattle.forgetting.specs.History.{AtPlaces}
use Rattle.forgetting.proofs.Members.{either, in_none, in_cons}
use Rattle.runs.specs.Moments.{start, chip_key, Act, starts, writes, turns, stops, looks, run, handed, Changes, Allowed, Stands}
use Rattle.runs.specs.Cases.{Row, acts_of, at_end, OpenAt, records_of, Meets, at, rows, Cases, reusing, Reused}
use Rattle.runs.proofs.Standing.{stands-holds, holds-stands}
use Rattle.runs.proofs.Running.{sound_allowed, seen_known, rule}

-- TESTS, and what they tell. A number is in a list.
among : ℕ → List ℕ → Bool
among k [] = false
among k (x ∷ xs) = eqb k x || among k xs

not_among : (k : ℕ) (xs : List ℕ) → among k xs ≡ false → Memᴰ k xs → ⊥
unfolding among
not_among k [] e m = in_none m
not_among k (x ∷ xs) e m = let p = or_parts (eqb k x) (among k xs) e in in_cons m (eqb-false k x p.0) (not_among k xs p.1)

apart : List ℕ → Bool
apart [] = true
apart (k ∷ ks) = not (among k ks) && apart ks

is-apart : (ks : List ℕ) → apart ks ≡ true → Apart ks
unfolding apart
is-apart [] e = tt
is-apart (k ∷ ks) e = let p = and_parts (not (among k ks)) (apart ks) e in (not_among k ks (not-true (among k ks) p.0), is-apart ks p.1)

-- A change is of places d levels down.
at_places : ℕ → Edit ℕ ℕ → Bool
at_places d same = true
at_places zero (puts k c) = true
at_places zero takes = true
at_places zero (fork k a b) = false
at_places (suc d) (puts k c) = false
at_places (suc d) takes = false
at_places (suc d) (fork k a b) = at_places d a && at_places d b

is-at-places : (d : ℕ) (e : Edit ℕ ℕ) → at_places d e ≡ true → AtPlaces d e
unfolding at_places
is-at-places d same e = tt
is-at-places zero (puts k c) e = tt
is-at-places zero takes e = tt
is-at-places zero (fork k a b) e = absurd (both_ways false refl e)
is-at-places (suc d) (puts k c) e = absurd (both_ways false refl e)
is-at-places (suc d) takes e = absurd (both_ways false refl e)
is-at-places (suc d) (fork k a b) e = let p = and_parts (at_places d a) (at_places d b) e in (is-at-places d a p.0, is-at-places d b p.1)

all_at_places : ℕ → List (Act ℕ ℕ) → Bool
all_at_places d [] = true
all_at_places d (starts next e ∷ acts) = at_places d e && all_at_places d acts
all_at_places d (writes ∷ acts) = all_at_places d acts
all_at_places d (turns ∷ acts) = all_at_places d acts
all_at_places d (stops ∷ acts) = all_at_places d acts
all_at_places d (looks ∷ acts) = all_at_places d acts

are_at-places : (d : ℕ) (acts : List (Act ℕ ℕ)) → all_at_places d acts ≡ true → Changes (AtPlaces d) acts
unfolding all_at_places
are_at-places d [] e = tt
are_at-places d (starts next x ∷ acts) e = let p = and_parts (at_places d x) (all_at_places d acts) e in (is-at-places d x p.0, are_at-places d acts p.1)
are_at-places d (writes ∷ acts) e = are_at-places d acts e
are_at-places d (turns ∷ acts) e = are_at-places d acts e
are_at-places d (stops ∷ acts) e = are_at-places d acts e
are_at-places d (looks ∷ acts) e = are_at-places d acts e

-- A tree holds c, and one of some trees does.
holds : ℕ → Tree ℕ ℕ → Bool
holds c bare = false
holds c (leaf k x) = eqb c x
holds c (node k l r) = holds c l || holds c r

does_hold : (c : ℕ) (t : Tree ℕ ℕ) → holds c t ≡ true → Holds t c
unfolding holds
does_hold c bare e = absurd (both_ways false refl e)
does_hold c (leaf k x) e = eqb-true c x e
does_hold c (node k l r) e = either (or_cases (holds c l) (holds c r) e) (λ i. inl (does_hold c l i)) (λ i. inr (does_hold c r i))

holds_not : (c : ℕ) (t : Tree ℕ ℕ) → holds c t ≡ false → Holds t c → ⊥
unfolding holds
holds_not c bare e h = h
holds_not c (leaf k x) e h = eqb-false c x e h
holds_not c (node k l r) e (inl h) = holds_not c l (or_parts (holds c l) (holds c r) e).0 h
holds_not c (node k l r) e (inr h) = holds_not c r (or_parts (holds c l) (holds c r) e).1 h

some_holds : List (Tree ℕ ℕ) → ℕ → Bool
some_holds [] c = false
some_holds (t ∷ ts) c = holds c t || some_holds ts c

some_holds_lem : (ts : List (Tree ℕ ℕ)) (c : ℕ) → some_holds ts c ≡ true → (t : Tree ℕ ℕ) × Memᴰ t ts × Holds t c
unfolding some_holds
some_holds_lem [] c e = absurd (both_ways false refl e)
some_holds_lem (t ∷ ts) c e =
    either (or_cases (holds c t) (some_holds ts c) e) (λ i. (t, Memᴰ.head refl, does_hold c t i)) (λ i. let o = some_holds_lem ts c i in (o.0, Memᴰ.tail o.1, o.2))

none_holds : (ts : List (Tree ℕ ℕ)) (c : ℕ) → some_holds ts c ≡ false → (t : Tree ℕ ℕ) → Memᴰ t ts → Holds t c → ⊥
unfolding some_holds
none_holds [] c e t m h = in_none m
none_holds (x ∷ ts) c e t m h =
    let p = or_parts (holds c x) (some_holds ts c) e in
    in_cons m (λ i. holds_not c x p.0 (subst (λ (y : Tree ℕ ℕ). Holds y c) i h)) (λ i. none_holds ts c p.1 t i h)

-- Of each number in a list.
each : (ℕ → Bool) → List ℕ → Bool
each f [] = true
each f (c ∷ cs) = f c && each f cs

of_each : (f : ℕ → Bool) (cs : List ℕ) → each f cs ≡ true → (c : ℕ) → Memᴰ c cs → f c ≡ true
unfolding each
of_each f [] e c m = in_none m
of_each f (x ∷ cs) e c m = let p = and_parts (f x) (each f cs) e in in_cons m (λ i. ap f i ∙ p.0) (of_each f cs p.1 c)

-- THE TEST OF A ROW, and of all.
fits : Row → Bool
fits r =
    all_at_places 2 (acts_of r)
    && (apart (0 ∷ handed (acts_of r)) && (eqb (chip_key 0 (at_end r).tree) r.chip && (each (some_holds (at_end r).looks) r.opens && each (λ c. not (some_holds (at_end r).looks c)) r.shut)))

Writes : Row → Type 0
Writes r = records_of r.change (run 2 r.before (start 0)).tree ≡ r.records

fits_meets : (r : Row) → fits r ≡ true → Writes r → Meets r
unfolding fits Writes
fits_meets r e written =
    let ts = (at_end r).looks in
    let f : ℕ → Bool = λ c. not (some_holds ts c) in
    let p = and_parts (all_at_places 2 (acts_of r)) (apart (0 ∷ handed (acts_of r)) && (eqb (chip_key 0 (at_end r).tree) r.chip && (each (some_holds ts) r.opens && each f r.shut))) e in
    let q = and_parts (apart (0 ∷ handed (acts_of r))) (eqb (chip_key 0 (at_end r).tree) r.chip && (each (some_holds ts) r.opens && each f r.shut)) p.1 in
    let u = and_parts (eqb (chip_key 0 (at_end r).tree) r.chip) (each (some_holds ts) r.opens && each f r.shut) q.1 in
    let v = and_parts (each (some_holds ts) r.opens) (each f r.shut) u.1 in
    let a : Allowed 2 0 (acts_of r) = record { places = are_at-places 2 (acts_of r) p.0; new = is-apart (0 ∷ handed (acts_of r)) q.0 } in
    record {
      allowed = a;
      records = written;
      chip = eqb-true (chip_key 0 (at_end r).tree) r.chip u.0;
      opens = λ c m.
          let o = some_holds_lem ts c (of_each (some_holds ts) r.opens v.0 c m) in
          (rule ℕ ℕ 2 0 (acts_of r) a ts (λ x i. i) c).1 (o.0, o.1, holds-stands 2 o.0 c (seen_known 2 0 (at_end r) (sound_allowed 2 0 (acts_of r) a) o.0 o.1).1 o.2);
      shut = λ c m o.
          let s = (rule ℕ ℕ 2 0 (acts_of r) a ts (λ x i. i) c).0 o in
          none_holds ts c (not-true (some_holds ts c) (of_each f r.shut v.1 c m)) s.0 s.1 (stands-holds 2 s.2.0 s.0 c s.2.2);
    }

all_fit : List Row → Bool
all_fit [] = true
all_fit (r ∷ rs) = fits r && all_fit rs

AllWrite : List Row → Type 0
AllWrite [] = Unit {0}
AllWrite (r ∷ rs) = Writes r × AllWrite rs

all_meet : (rs : List Row) → all_fit rs ≡ true → AllWrite rs → (r : Row) → Memᴰ r rs → Meets r
unfolding all_fit AllWrite
all_meet [] e w r m = in_none m
all_meet (x ∷ rs) e w r m = let p = and_parts (fits x) (all_fit rs) e in in_cons m (λ i. subst Meets (sym i) (fits_meets x p.0 w.0)) (all_meet rs p.1 w.1 r)

computed : all_fit rows ≡ true
unfolding all_fit fits all_at_places at_places apart among each some_holds holds
computed = refl

computed_records : AllWrite rows
unfolding AllWrite Writes
computed_records = (refl, (refl, (refl, (refl, (refl, (refl, tt))))))

pub cases : Cases
cases = all_meet rows computed computed_records

-- WITH KEYS OF A CHANGE THAT WAS CUT OFF.
reuse_opens : OpenAt (run 2 reusing (start 0)) 200
reuse_opens =
    by (at 0 1) 0 4
    (opened (at 0 1) 1 5
    (opened (at 1 0) 0 6 (had_it (Memᴰ.head refl))
    (Memᴰ.tail (Memᴰ.tail (Memᴰ.tail (Memᴰ.tail (Memᴰ.tail (Memᴰ.tail (Memᴰ.head refl))))))))
    (Memᴰ.tail (Memᴰ.tail (Memᴰ.tail (Memᴰ.tail (Memᴰ.head refl))))))
    (Memᴰ.tail (Memᴰ.tail (Memᴰ.tail (Memᴰ.head refl))))

reuse_unheld : some_holds (run 2 reusing (start 0)).looks 200 ≡ false
unfolding some_holds holds
reuse_unheld = refl

reuse_never : (r : Tree ℕ ℕ) → Memᴰ r (run 2 reusing (start 0)).looks → Stands 2 r 200 → ⊥
reuse_never r m s = none_holds (run 2 reusing (start 0)).looks 200 reuse_unheld r m (stands-holds 2 s.0 r 200 s.2)

pub reused : Reused
reused =
    record {
      opens = reuse_opens;
      never_stood = reuse_never;
      not_allowed = λ a. let s = (rule ℕ ℕ 2 0 reusing a (run 2 reusing (start 0)).looks (λ x i. i) 200).0 reuse_opens in reuse_never s.0 s.1 s.2;
    }
