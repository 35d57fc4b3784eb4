-- The book of a play has what its run has: what the places hold, and what stood in some place at a look.
use Rattle.std.proofs.Common.{◌≡◌, ℕ, zero, suc, ◌^◌, ◌<◌, Bool, true, false, cond, List, [], ◌∷◌, length, get_or, set, Some, None, Option, sym, refl, ap, ◌∙◌, subst, get_or-set_other, ltb-true}
use mathlib.Core.List.Memᴰ
use lib.ListN.{get_or-replicate}
use Rattle.std.proofs.lemmas.Bool.{cases_eq}
use Rattle.forgetting.specs.Tree.{Tree, bare, even_of, odd_of, to_even, turn, place_in, content_of}
use Rattle.forgetting.specs.Change.{Edit, edited, Record, records, single}
use Rattle.forgetting.specs.History.{root}
use Rattle.forgetting.proofs.Members.{either, in_none, in_cons}
use Rattle.forgetting.proofs.Places.{single_sets}
use Rattle.runs.specs.Moments.{Pending, idle, busy, State, start, starts, turns, stops, looks, wrote, turned, step, run, Stood}
use Rattle.runs.specs.Consequences.{writes_of}
use Rattle.runs.proofs.Running.{run-joined, rule}
use Rattle.ledger.specs.declared.moves.Move.{Move}
use Rattle.ledger.specs.declared.moves.Move.TheVariants.{Put, PutCut, Out, OutCut, Look}
use Rattle.ledger.specs.Book.{Book, played, played_all, blank, after, there, all_there}
use Rattle.ledger.specs.Play.{whole, some_writes, broken, acts_from, acts_of, end_of, IsOpen, IsShut, HoldsThen}
use Rattle.ledger.proofs.Books.{Both, both, one_unseen, one_longer, looked-length, looked_keeps, looked-sees, looked-only, Sound, sound_blank, sound_played, set_here}

module _ {K : Type 0} (d : ℕ) where
  -- The tree of s is t, and its looks are rs.
  record Seen (s : State K ℕ) (t : Tree K ℕ) (rs : List (Tree K ℕ)) : Type 0 where
    pub tree_is : s.tree ≡ t
    pub looks_are : s.looks ≡ rs

  -- Records written change neither the tree nor the looks.
  wrote-seen : (s : State K ℕ) (p : Pending K ℕ) (t : Tree K ℕ) (rs : List (Tree K ℕ)) → Seen s t rs → Seen (wrote s p) t rs
  wrote-seen s idle t rs g = g
  wrote-seen s (busy [] x) t rs g = g
  wrote-seen s (busy (r ∷ xs) x) t rs g = record { tree_is = g.tree_is; looks_are = g.looks_are }

  some_seen : (n : ℕ) (s : State K ℕ) (t : Tree K ℕ) (rs : List (Tree K ℕ)) → Seen s t rs → Seen (run d (some_writes n) s) t rs
  some_seen zero s t rs g = g
  some_seen (suc n) s t rs g = some_seen n (wrote s s.pending) t rs (wrote-seen s s.pending t rs g)

  all_seen : (xs : List (Record K ℕ)) (s : State K ℕ) (t : Tree K ℕ) (rs : List (Tree K ℕ)) → Seen s t rs → Seen (run d (writes_of xs) s) t rs
  all_seen [] s t rs g = g
  all_seen (x ∷ xs) s t rs g = all_seen xs (wrote s s.pending) t rs (wrote-seen s s.pending t rs g)

  -- Each record written, none is left.
  none_left : (xs : List (Record K ℕ)) (t : Tree K ℕ) (s : State K ℕ) → s.pending ≡ busy xs t → (run d (writes_of xs) s).pending ≡ busy [] t
  none_left [] t s e = e
  none_left (x ∷ xs) t s e = none_left xs t (wrote s s.pending) (ap (λ p. (wrote s p).pending) e)

  turned-seen : (s : State K ℕ) (t : Tree K ℕ) (rs : List (Tree K ℕ)) → s.pending ≡ busy [] t → s.looks ≡ rs → Seen (turned s s.pending) t rs
  turned-seen s t rs e l = subst (λ (p : Pending K ℕ). Seen (turned s p) t rs) (sym e) (record { tree_is = refl; looks_are = l })

  -- A change made to its end.
  whole-seen : (e : Edit K ℕ) (s : State K ℕ) (t : Tree K ℕ) → s.tree ≡ t → Seen (run d (whole d e t) s) (edited e t) s.looks
  whole-seen e s t f =
      let xs : List (Record K ℕ) = records 0 (root d) e t in
      let s1 : State K ℕ = step d (starts 0 e) s in
      subst (λ (x : State K ℕ). Seen x (edited e t) s.looks) (sym (run-joined d (writes_of xs) (turns ∷ []) s1))
      (turned-seen (run d (writes_of xs) s1) (edited e t) s.looks (none_left xs (edited e t) s1 (ap (λ (x : Tree K ℕ). busy (records 0 (root d) e x) (edited e x)) f))
      (all_seen xs s1 s.tree s.looks (record { tree_is = refl; looks_are = refl })).looks_are)

  -- One cut off.
  broken-seen : (e : Edit K ℕ) (n : ℕ) (s : State K ℕ) (t : Tree K ℕ) → s.tree ≡ t → Seen (run d (broken e n) s) t s.looks
  broken-seen e n s t f =
      let s1 : State K ℕ = step d (starts 0 e) s in
      subst (λ (x : State K ℕ). Seen x t s.looks) (sym (run-joined d (some_writes n) (stops ∷ []) s1))
      (let g = some_seen n s1 t s.looks (record { tree_is = f; looks_are = refl }) in record { tree_is = g.tree_is; looks_are = g.looks_are })

  -- A BOOK AGREES with a tree and looks.
  record Agrees (b : Book) (t : Tree K ℕ) (rs : List (Tree K ℕ)) : Type 0 where
    pub sound : Sound d b
    pub holds : (p : ℕ) → p < 2 ^ d → content_of (place_in d p t) ≡ get_or b.standing p None
    pub stood : (c : ℕ) → Stood d rs c → get_or b.seen c false ≡ true
    pub only : (c : ℕ) → get_or b.seen c false ≡ true → Stood d rs c

  -- A place changed.
  changed : (b : Book) (t : Tree K ℕ) (p : ℕ) (w : Option ℕ) (ks : ℕ → K) → p < 2 ^ d → Sound d b → ((q : ℕ) → q < 2 ^ d → content_of (place_in d q t) ≡ get_or b.standing q None) →
      (q : ℕ) → q < 2 ^ d → content_of (place_in d q (edited (single w ks d p) t)) ≡ get_or (set b.standing p w) q None
  changed b t p w ks here g h q l =
      either (cases_eq q p)
      (λ e. subst (λ (x : ℕ). content_of (place_in d x (edited (single w ks d p) t)) ≡ get_or (set b.standing p w) x None) (sym e) ((single_sets K ℕ w ks d p t).0 ∙ sym (set_here d b g p here w)))
      (λ e. (single_sets K ℕ w ks d p t).1 q here l e ∙ h q l ∙ sym (get_or-set_other b.standing p q w None e))

  agrees_put : (b : Book) (t : Tree K ℕ) (rs : List (Tree K ℕ)) (p : ℕ) (ks : ℕ → K) → there d (Put p) ≡ true → Agrees b t rs → Agrees (played (Put p) b) (edited (single (Some (length b.seen)) ks d p) t) rs
  agrees_put b t rs p ks h g =
      record {
        sound = sound_played d (Put p) b h g.sound;
        holds = changed b t p (Some (length b.seen)) ks (ltb-true p (2 ^ d) h) g.sound g.holds;
        stood = λ c x. one_unseen b.seen c ∙ g.stood c x;
        only = λ c x. g.only c (sym (one_unseen b.seen c) ∙ x);
      }

  agrees_put_cut : (b : Book) (t : Tree K ℕ) (rs : List (Tree K ℕ)) (p n : ℕ) → there d (PutCut p n) ≡ true → Agrees b t rs → Agrees (played (PutCut p n) b) t rs
  agrees_put_cut b t rs p n h g =
      record {
        sound = sound_played d (PutCut p n) b h g.sound;
        holds = g.holds;
        stood = λ c x. one_unseen b.seen c ∙ g.stood c x;
        only = λ c x. g.only c (sym (one_unseen b.seen c) ∙ x);
      }

  agrees-out : (b : Book) (t : Tree K ℕ) (rs : List (Tree K ℕ)) (p : ℕ) (ks : ℕ → K) → there d (Out p) ≡ true → Agrees b t rs → Agrees (played (Out p) b) (edited (single None ks d p) t) rs
  agrees-out b t rs p ks h g =
      record {
        sound = sound_played d (Out p) b h g.sound;
        holds = changed b t p None ks (ltb-true p (2 ^ d) h) g.sound g.holds;
        stood = g.stood;
        only = g.only;
      }

  agrees_look : (b : Book) (t : Tree K ℕ) (rs : List (Tree K ℕ)) → Agrees b t rs → Agrees (played Look b) t (t ∷ rs)
  agrees_look b t rs g =
      record {
        sound = sound_played d Look b refl g.sound;
        holds = g.holds;
        stood = λ c x. in_cons x.1
            (λ e. let e' = subst (λ (y : Tree K ℕ). content_of (place_in d x.2.0 y) ≡ Some c) e x.2.2 in
            let f = sym (g.holds x.2.0 x.2.1) ∙ e' in
            looked-sees b.standing b.seen x.2.0 c (g.sound.below x.2.0 c x.2.1 f) (subst (λ (n : ℕ). x.2.0 < n) (sym g.sound.size) x.2.1) f)
            (λ m. looked_keeps b.standing b.seen c (g.stood c (x.0, m, x.2)));
        only = λ c x. either (looked-only b.standing b.seen c x)
            (λ e. let y = g.only c e in (y.0, Memᴰ.tail y.1, y.2))
            (λ y. let l = subst (λ (n : ℕ). y.0 < n) g.sound.size y.1 in (t, Memᴰ.head refl, (y.0, l, g.holds y.0 l ∙ y.2)));
      }

  agrees-blank : Agrees (blank d) bare []
  agrees-blank =
      record {
        sound = sound_blank d;
        holds = λ p l. bare-place d p ∙ sym (get_or-replicate (2 ^ d) p None None l);
        stood = λ c x. in_none x.1;
        only = λ c x. absurd (false_true x);
      }
    where
      side : (b : Bool) → turn b (even_of {K = K} {C = ℕ} bare) (odd_of bare) ≡ bare
      side true = refl
      side false = refl

      bare-place : (h p : ℕ) → content_of {K = K} {C = ℕ} (place_in h p bare) ≡ None
      bare-place zero p = refl
      bare-place (suc h) p = ap (λ (x : Tree K ℕ). content_of (place_in h p x)) (side (to_even h p)) ∙ bare-place h p

      false_true : false ≡ true → ⊥
      false_true e = subst (λ (b : Bool). cond b ⊥ (Unit {0})) e tt

  -- OF A WHOLE PLAY.
  abbrev AgreesAt : Book → State K ℕ → Type 0
  AgreesAt b s = Agrees b s.tree s.looks

  moved : (b : Book) (s : State K ℕ) (t : Tree K ℕ) (rs : List (Tree K ℕ)) → Seen s t rs → Agrees b t rs → AgreesAt b s
  moved b s t rs e g =
      subst (λ (x : Tree K ℕ). Agrees b x s.looks) (sym e.tree_is) (subst (λ (x : List (Tree K ℕ)). Agrees b t x) (sym e.looks_are) g)

  module _ (keys : ℕ → ℕ → K) where
    abbrev Goes : List Move → ℕ → ℕ → Book → State K ℕ → Tree K ℕ → Type 0
    Goes ms j i b s t = AgreesAt (played_all ms b) (run d (acts_from d keys j i t ms) s)

    agrees-all : (ms : List Move) (j i : ℕ) (b : Book) (s : State K ℕ) (t : Tree K ℕ) → all_there d ms ≡ true → i ≡ length b.seen → s.tree ≡ t → Agrees b t s.looks → Goes ms j i b s t
    agrees-all [] j i b s t a n e g = moved b s t s.looks (record { tree_is = e; looks_are = refl }) g
    agrees-all (Put p ∷ ms) j i b s t a n e g =
        let h : Both d (Put p) ms = both d (Put p) ms a in
        let edit : Edit K ℕ = single (Some i) (keys j) d p in
        let s1 : State K ℕ = run d (whole d edit t) s in
        let w : Seen s1 (edited edit t) s.looks = whole-seen edit s t e in
        subst (AgreesAt (played_all ms (played (Put p) b))) (sym (run-joined d (whole d edit t) (acts_from d keys (suc j) (suc i) (edited edit t) ms) s))
        (agrees-all ms (suc j) (suc i) (played (Put p) b) s1 (edited edit t) h.rest (ap suc n ∙ sym (one_longer b.seen false)) w.tree_is
        (subst (Agrees (played (Put p) b) (edited edit t)) (sym w.looks_are)
        (subst (λ (x : ℕ). Agrees (played (Put p) b) (edited (single (Some x) (keys j) d p) t) s.looks) (sym n) (agrees_put b t s.looks p (keys j) h.first g))))
    agrees-all (PutCut p k ∷ ms) j i b s t a n e g =
        let h : Both d (PutCut p k) ms = both d (PutCut p k) ms a in
        let edit : Edit K ℕ = single (Some i) (keys j) d p in
        let s1 : State K ℕ = run d (broken edit k) s in
        let w : Seen s1 t s.looks = broken-seen edit k s t e in
        subst (AgreesAt (played_all ms (played (PutCut p k) b))) (sym (run-joined d (broken edit k) (acts_from d keys (suc j) (suc i) t ms) s))
        (agrees-all ms (suc j) (suc i) (played (PutCut p k) b) s1 t h.rest (ap suc n ∙ sym (one_longer b.seen false)) w.tree_is
        (subst (Agrees (played (PutCut p k) b) t) (sym w.looks_are) (agrees_put_cut b t s.looks p k h.first g)))
    agrees-all (Out p ∷ ms) j i b s t a n e g =
        let h : Both d (Out p) ms = both d (Out p) ms a in
        let edit : Edit K ℕ = single None (keys j) d p in
        let s1 : State K ℕ = run d (whole d edit t) s in
        let w : Seen s1 (edited edit t) s.looks = whole-seen edit s t e in
        subst (AgreesAt (played_all ms (played (Out p) b))) (sym (run-joined d (whole d edit t) (acts_from d keys (suc j) i (edited edit t) ms) s))
        (agrees-all ms (suc j) i (played (Out p) b) s1 (edited edit t) h.rest n w.tree_is
        (subst (Agrees (played (Out p) b) (edited edit t)) (sym w.looks_are) (agrees-out b t s.looks p (keys j) h.first g)))
    agrees-all (OutCut p k ∷ ms) j i b s t a n e g =
        let h : Both d (OutCut p k) ms = both d (OutCut p k) ms a in
        let edit : Edit K ℕ = single None (keys j) d p in
        let s1 : State K ℕ = run d (broken edit k) s in
        let w : Seen s1 t s.looks = broken-seen edit k s t e in
        subst (AgreesAt (played_all ms b)) (sym (run-joined d (broken edit k) (acts_from d keys (suc j) i t ms) s))
        (agrees-all ms (suc j) i b s1 t h.rest n w.tree_is (subst (Agrees b t) (sym w.looks_are) g))
    agrees-all (Look ∷ ms) j i b s t a n e g =
        agrees-all ms j i (played Look b) (step d looks s) t a (n ∙ sym (looked-length b.standing b.seen)) e
        (subst (λ (x : Tree K ℕ). Agrees (played Look b) t (x ∷ s.looks)) (sym e) (agrees_look b t s.looks g))

  agrees : (z : K) (keys : ℕ → ℕ → K) (ms : List Move) → all_there d ms ≡ true → AgreesAt (after d ms) (end_of d z keys ms)
  agrees z keys ms a = agrees-all keys ms 0 0 (blank d) (start z) bare a refl refl agrees-blank

-- THE VERDICTS ARE RIGHT, by the rule.
pub is_open : (d : ℕ) (ms : List Move) (c : ℕ) → all_there d ms ≡ true → get_or (after d ms).seen c false ≡ true → IsOpen d ms c
is_open d ms c a e z keys allowed = (rule (List ℕ) ℕ d z (acts_of d keys ms) allowed (end_of d z keys ms).looks (λ x m. m) c).1 ((agrees d z keys ms a).only c e)

pub is-shut : (d : ℕ) (ms : List Move) (c : ℕ) → all_there d ms ≡ true → get_or (after d ms).seen c false ≡ false → IsShut d ms c
is-shut d ms c a e z keys allowed o =
    true_false (sym ((agrees d z keys ms a).stood c ((rule (List ℕ) ℕ d z (acts_of d keys ms) allowed (end_of d z keys ms).looks (λ x m. m) c).0 o)) ∙ e)
  where
    true_false : true ≡ false → ⊥
    true_false f = subst (λ (b : Bool). cond b (Unit {0}) ⊥) f tt

pub holds_then : (d : ℕ) (ms : List Move) (p : ℕ) → all_there d ms ≡ true → p < 2 ^ d → HoldsThen d ms p (get_or (after d ms).standing p None)
holds_then d ms p a l z keys = (agrees d z keys ms a).holds p l
