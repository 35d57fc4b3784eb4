-- What follows from the rule, and what else holds of every run.
use Rattle.std.proofs.Common.{◌≡◌, ℕ, zero, suc, ◌^◌, ◌<◌, Bool, true, false, ◌⊎◌, List, [], ◌∷◌, ◌++◌, map, Some, None, Option, sym, refl, ap, ◌∙◌, subst, inl, inr}
use mathlib.Core.List.Memᴰ
use mathlib.Core.List.{Memᴰ}
use Rattle.std.proofs.lemmas.Bool.{cases_eq}
use Rattle.forgetting.specs.Secret.{Opens}
use Rattle.forgetting.specs.Tree.{Tree, even_of, odd_of, Holds, Levels, to_even, place_in, content_of}
use Rattle.forgetting.specs.Change.{Edit, same, puts, takes, fork, edited, Record, records, towards, single}
use Rattle.forgetting.specs.History.{root}
use Rattle.forgetting.proofs.Members.{Within, either, in_none}
use Rattle.forgetting.proofs.Places.{single-at-places, single_sets}
use Rattle.runs.specs.Moments.{Pending, idle, busy, State, start, chip_key, Act, starts, writes, turns, stops, looks, wrote, turned, step, run, Changes, Allowed, Stands, Puts, NeverPut, unread}
use Rattle.runs.specs.Rule.{HeldAtPlaces}
use Rattle.runs.specs.Consequences.{AllWritten, answered, NowhereBut, Forgotten, Replaced, PutAfterLastLook, Once, Emptied, ReadsAll, NoStarts, BeforeOrAfter, AnsweredStays, writes_of, Finishes, OnePlace}
use Rattle.runs.proofs.Closure.{none_not_some}
use Rattle.runs.proofs.Steps.{left_of, good_unread}
use Rattle.runs.proofs.Standing.{some_same, holds_even, holds_odd, stands-holds, holds-stands}
use Rattle.runs.proofs.Running.{changes-map, run-joined, NextKept, Kept, Keeps, kept_run, kept-start, Sound, Ahead, sound_run, ahead_start, ahead_first, ahead_rest, sound_start, sound_allowed, seen_known, now_known, opens-only, opens-all}

module _ {K C : Type 0} where
  -- After a change the tree holds what it held, or what the change puts in.
  edited-holds : (e : Edit K C) (t : Tree K C) (c : C) → Holds (edited e t) c → Puts c e ⊎ Holds t c
  edited-holds same t c h = inr h
  edited-holds (puts k x) t c h = inl h
  edited-holds takes t c h = absurd h
  edited-holds (fork k a b) t c (inl h) = either (edited-holds a (even_of t) c h) (λ x. inl (inl x)) (λ x. inr (holds_even t c x))
  edited-holds (fork k a b) t c (inr h) = either (edited-holds b (odd_of t) c h) (λ x. inl (inr x)) (λ x. inr (holds_odd t c x))

  abbrev Lacks : C → Tree K C → Type 0
  Lacks c t = Holds t c → ⊥

  -- So changes that do not put c in keep a tree without it.
  never_keeps : (c : C) (acts : List (Act K C)) → NeverPut c acts → Changes (Keeps (Lacks c)) acts
  never_keeps c acts n = changes-map (λ e. Puts c e → ⊥) (Keeps (Lacks c)) (λ e f t l h. either (edited-holds e t c h) f l) acts n

  -- Looks at trees that lack c do not open it.
  lacks_shut : (d : ℕ) (z : K) (s : State K C) → Sound d z s → (rs : List (Tree K C)) → Within rs s.looks → (c : C) → ((r : Tree K C) → Memᴰ r rs → Lacks c r) →
      Opens (map (chip_key z) rs) s.written c → ⊥
  lacks_shut d z s g rs sub c lacks o =
      let f = opens-only d z s g rs (λ r m. seen_known d z s g r (sub r m)) c o in
      lacks f.0 f.1 (stands-holds d f.2.0 f.0 c f.2.2)

  -- THE PLACE p IS CHANGED, and what stood in no other place, and is not put in, is gone from the tree.
  gone : (w : Option C) (keys : ℕ → K) (d p : ℕ) (t : Tree K C) → p < 2 ^ d → (c : C) → (w ≡ Some c → ⊥) → NowhereBut d p t c → Levels d (edited (single w keys d p) t) →
      Lacks c (edited (single w keys d p) t)
  gone w keys d p t less c other nowhere l h = go (holds-stands d (edited (single w keys d p) t) c l h)
    where
      go : Stands d (edited (single w keys d p) t) c → ⊥
      go (q, lq, e) =
          either (cases_eq q p)
          (λ f. other (sym (single_sets K C w keys d p t).0 ∙ ap (λ x. content_of (place_in d x (edited (single w keys d p) t))) (sym f) ∙ e))
          (λ f. f (nowhere q lq (sym ((single_sets K C w keys d p t).1 q less lq f) ∙ e)))

  -- The chip turned, with no record left: the tree is the new one, and no change is under way.
  turned-tree : (s : State K C) (t : Tree K C) → s.pending ≡ busy [] t → (turned s s.pending).tree ≡ t
  turned-tree s t e = ap (λ p. (turned s p).tree) e

  turned-idle : (s : State K C) (t : Tree K C) → s.pending ≡ busy [] t → (turned s s.pending).pending ≡ idle
  turned-idle s t e = ap (λ p. (turned s p).pending) e

  idle-keeps : (P : Tree K C → Type 0) (p : Pending K C) → p ≡ idle → NextKept P p
  idle-keeps P p e = subst (NextKept P) (sym e) tt

  module _ (d : ℕ) (z : K) (before : List (Act K C)) (next : ℕ) (w : Option C) (keys : ℕ → K) (p : ℕ) (during after : List (Act K C)) (less : p < 2 ^ d)
      (allowed : Allowed d z ((before ++ (starts next (single w keys d p) ∷ during)) ++ (turns ∷ after))) (all : AllWritten d z before next (single w keys d p) during) where
    abbrev first : List (Act K C)
    first = before ++ (starts next (single w keys d p) ∷ during)

    abbrev s1 : State K C
    s1 = run d first (start z)

    abbrev s2 : State K C
    s2 = answered d z before next (single w keys d p) during

    ahead1 : Ahead d s1 (turns ∷ after)
    ahead1 = ahead_rest d (start z) first (turns ∷ after) (ahead_start d z (first ++ (turns ∷ after)) allowed)

    sound1 : Sound d z s1
    sound1 = sound_run d z first (start z) (ahead_first d (start z) first (turns ∷ after) (ahead_start d z (first ++ (turns ∷ after)) allowed)) (sound_start d z)

    sound2 : Sound d z s2
    sound2 = sound_run d z (turns ∷ []) s1 (ahead_first d s1 (turns ∷ []) after ahead1) sound1

    ahead2 : Ahead d (unread s2) after
    ahead2 = let a = ahead_rest d s1 (turns ∷ []) after ahead1 in record { places = a.places; apart = a.apart; new = a.new }

    unread2 : Sound d z (unread s2)
    unread2 =
        record {
          good = good_unread (root d) z s2.tree s2.written s2.drawn s2.looks s2.pending sound2.good;
          levels = record { now = sound2.levels.now; next = sound2.levels.next; seen = λ r m. in_none m };
        }

    changed_shut : (c : C) → (w ≡ Some c → ⊥) → NowhereBut d p (run d before (start z)).tree c → NeverPut c after → (rs : List (Tree K C)) →
        Within rs (run d after (unread s2)).looks → Opens (map (chip_key z) rs) (run d after (unread s2)).written c → ⊥
    changed_shut c other nowhere never rs sub = lacks_shut d z (run d after (unread s2)) (sound_run d z after (unread s2) ahead2 unread2) rs sub c (λ r m. kept.seen r (sub r m))
      where
        same-tree : s2.tree ≡ edited (single w keys d p) (run d before (start z)).tree
        same-tree = turned-tree s1 (edited (single w keys d p) (run d before (start z)).tree) all

        lacks : Lacks c s2.tree
        lacks = subst (Lacks c) (sym same-tree) (gone w keys d p (run d before (start z)).tree less c other nowhere (subst (Levels d) same-tree sound2.levels.now))

        kept : Kept (Lacks c) (run d after (unread s2))
        kept =
            kept_run (Lacks c) d after (unread s2) (never_keeps c after never)
            (record { now = lacks; next = idle-keeps (Lacks c) s2.pending (turned-idle s1 (edited (single w keys d p) (run d before (start z)).tree) all); seen = λ r m. in_none m })

  -- NO LOOK, so none more.
  wrote-looks : (s : State K C) (p : Pending K C) → (wrote s p).looks ≡ s.looks
  wrote-looks s idle = refl
  wrote-looks s (busy [] t) = refl
  wrote-looks s (busy (r ∷ rs) t) = refl

  turned-looks : (s : State K C) (p : Pending K C) → (turned s p).looks ≡ s.looks
  turned-looks s idle = refl
  turned-looks s (busy [] t) = refl
  turned-looks s (busy (r ∷ rs) t) = refl

  no_more : (d : ℕ) (acts : List (Act K C)) (s : State K C) → (Memᴰ looks acts → ⊥) → (run d acts s).looks ≡ s.looks
  no_more d [] s n = refl
  no_more d (starts next e ∷ acts) s n = no_more d acts (step d (starts next e) s) (λ m. n (Memᴰ.tail m))
  no_more d (writes ∷ acts) s n = no_more d acts (step d writes s) (λ m. n (Memᴰ.tail m)) ∙ wrote-looks s s.pending
  no_more d (turns ∷ acts) s n = no_more d acts (step d turns s) (λ m. n (Memᴰ.tail m)) ∙ turned-looks s s.pending
  no_more d (stops ∷ acts) s n = no_more d acts (step d stops s) (λ m. n (Memᴰ.tail m))
  no_more d (looks ∷ acts) s n = absurd (n (Memᴰ.head refl))

  -- WHERE NO CHANGE BEGINS, what holds of the tree, and of the one that the change under way makes, holds of the tree then.
  wrote_between : (P : Tree K C → Type 0) (s : State K C) (p : Pending K C) → P s.tree → NextKept P p → s.pending ≡ p → P (wrote s p).tree × NextKept P (wrote s p).pending
  wrote_between P s idle now next e = (now, idle-keeps P s.pending e)
  wrote_between P s (busy [] t) now next e = (now, subst (NextKept P) (sym e) next)
  wrote_between P s (busy (r ∷ rs) t) now next e = (now, next)

  turned_between : (P : Tree K C → Type 0) (s : State K C) (p : Pending K C) → P s.tree → NextKept P p → s.pending ≡ p → P (turned s p).tree × NextKept P (turned s p).pending
  turned_between P s idle now next e = (now, idle-keeps P s.pending e)
  turned_between P s (busy [] t) now next e = (next, tt)
  turned_between P s (busy (r ∷ rs) t) now next e = (now, subst (NextKept P) (sym e) next)

  between : (P : Tree K C → Type 0) (d : ℕ) (acts : List (Act K C)) (s : State K C) → NoStarts acts → P s.tree → NextKept P s.pending → P (run d acts s).tree
  between P d [] s n now next = now
  between P d (starts x e ∷ acts) s n now next = absurd n.0
  between P d (writes ∷ acts) s n now next = let b = wrote_between P s s.pending now next refl in between P d acts (step d writes s) n b.0 b.1
  between P d (turns ∷ acts) s n now next = let b = turned_between P s s.pending now next refl in between P d acts (step d turns s) n b.0 b.1
  between P d (stops ∷ acts) s n now next = between P d acts (step d stops s) n now tt
  between P d (looks ∷ acts) s n now next = between P d acts (step d looks s) n now next

  -- Each record written, none is left.
  none_left : (d : ℕ) (rs : List (Record K C)) (t : Tree K C) (s : State K C) → s.pending ≡ busy rs t → (run d (writes_of rs) s).pending ≡ busy [] t
  none_left d [] t s e = e
  none_left d (r ∷ rs) t s e = none_left d rs t (wrote s s.pending) (ap (λ p. (wrote s p).pending) e)

  -- The change of one place puts in at most what it says.
  towards-puts : (b : Bool) (k : K) (e : Edit K C) (c : C) → Puts c (towards b k e) → Puts c e
  towards-puts true k e c (inl h) = h
  towards-puts true k e c (inr h) = absurd h
  towards-puts false k e c (inl h) = absurd h
  towards-puts false k e c (inr h) = h

  single-puts : (w : Option C) (keys : ℕ → K) (d p : ℕ) (c : C) → Puts c (single w keys d p) → w ≡ Some c
  single-puts None keys zero p c h = absurd h
  single-puts (Some x) keys zero p c h = ap Some (sym h)
  single-puts w keys (suc d) p c h = single-puts w keys d p c (towards-puts (to_even d p) (keys (suc d)) (single w keys d p) c h)

pub held-at-places : (K C : Type 0) → HeldAtPlaces K C
held-at-places K C d t l c = (holds-stands d t c l, λ s. stands-holds d s.0 t c s.2)

pub forgotten : (K C : Type 0) → Forgotten K C
forgotten K C d z before next keys p during after less allowed all c =
    changed_shut d z before next None keys p during after less allowed all c (none_not_some c)

pub replaced : (K C : Type 0) → Replaced K C
replaced K C d z before next x keys p during after less allowed all c other =
    changed_shut d z before next (Some x) keys p during after less allowed all c (λ e. other (some_same x c e))

pub put_after_last_look : (K C : Type 0) → PutAfterLastLook K C
put_after_last_look K C d z before after allowed none c never rs sub =
    lacks_shut d z (run d (before ++ after) (start z)) (sound_allowed d z (before ++ after) allowed) rs sub c
    (λ r m. (kept_run (Lacks c) d before (start z) (never_keeps c before never) (kept-start (Lacks c) d z (λ h. h))).seen r (subst (λ (X : List (Tree K C)). Memᴰ r X) same-looks (sub r m)))
  where
    same-looks : (run d (before ++ after) (start z)).looks ≡ (run d before (start z)).looks
    same-looks = ap (λ s. s.looks) (run-joined d before after (start z)) ∙ no_more d after (run d before (start z)) none

pub once : (K C : Type 0) → Once K C
once K C d z acts allowed v w a b =
    let s = run d acts (start z) in
    (sound_allowed d z acts allowed).good.once v w (Memᴰ.append_left (left_of s.pending) a) (Memᴰ.append_left (left_of s.pending) b)

pub emptied : (K C : Type 0) → Emptied K C
emptied K C d z acts allowed empty c o =
    let s = run d acts (start z) in
    let g = sound_allowed d z acts allowed in
    let f = opens-only d z s g (s.tree ∷ []) (now_known d z s g) c o in
    none_not_some c (sym (empty f.2.0 f.2.1) ∙ ap (λ (t : Tree K C). content_of (place_in d f.2.0 t)) (sym (Memᴰ.eq_of_singleton f.1)) ∙ f.2.2)

pub reads_all : (K C : Type 0) → ReadsAll K C
reads_all K C d z acts allowed c stands =
    let s = run d acts (start z) in
    let g = sound_allowed d z acts allowed in
    opens-all d z s g (s.tree ∷ []) (now_known d z s g) c (s.tree, Memᴰ.head refl, stands)

pub before_or_after : (K C : Type 0) → BeforeOrAfter K C
before_or_after K C d s next e during none =
    subst (λ (x : State K C). (x.tree ≡ s.tree) ⊎ (x.tree ≡ edited e s.tree)) (sym (run-joined d during (stops ∷ []) (step d (starts next e) s)))
    (between (λ (t : Tree K C). (t ≡ s.tree) ⊎ (t ≡ edited e s.tree)) d during (step d (starts next e) s) none (inl refl) (inr refl))

pub answered_stays : (K C : Type 0) → AnsweredStays K C
answered_stays K C d z before next e during after all none =
    let s = run d (before ++ (starts next e ∷ during)) (start z) in
    let t = edited e (run d before (start z)).tree in
    between (λ (x : Tree K C). x ≡ t) d after (answered d z before next e during) none (turned-tree s t all) (idle-keeps (λ (x : Tree K C). x ≡ t) (turned s s.pending).pending (turned-idle s t all))

pub finishes : (K C : Type 0) → Finishes K C
finishes K C d z before next e =
    let s = run d before (start z) in
    let rs = records next (root d) e s.tree in
    ap (λ (x : State K C). x.pending) (run-joined d before (starts next e ∷ writes_of rs) (start z)) ∙ none_left d rs (edited e s.tree) (step d (starts next e) s) refl

pub one_place : (K C : Type 0) → OnePlace K C
one_place K C w keys d p = (single-at-places w keys d p, single-puts w keys d p)
