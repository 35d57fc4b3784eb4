-- Whole runs: what holds at every moment of an allowed run, and what can be opened then.
use Rattle.std.proofs.Common.{◌≡◌, ℕ, List, [], ◌∷◌, ◌++◌, map, sym, refl, ap, ◌∙◌, subst, append_assoc}
use mathlib.Core.List.Memᴰ
use mathlib.Core.List.{Memᴰ}
use Rattle.forgetting.specs.Secret.{Node, Opens}
use Rattle.forgetting.specs.Tree.{Tree, bare, Levels}
use Rattle.forgetting.specs.Change.{Edit, edited, drawn, records}
use Rattle.forgetting.specs.Lawful.{Apart, New}
use Rattle.forgetting.specs.History.{AtPlaces, root}
use Rattle.forgetting.proofs.Members.{Within, in_none, in_cons, in_joined, split}
use Rattle.forgetting.proofs.Changes.{lawful}
use Rattle.forgetting.proofs.Invariant.{edited_levels}
use Rattle.runs.specs.Moments.{Pending, idle, busy, State, start, chip_key, Act, starts, writes, turns, stops, looks, wrote, turned, step, run, handed, Changes, Allowed, Stands, unread}
use Rattle.runs.specs.Rule.{Rule, LooksFrom}
use Rattle.runs.proofs.Closure.{Each, only-held, held-opens}
use Rattle.runs.proofs.Steps.{At, left_of, Good, good_stopped, good_started, good_wrote, good_turned, good_looked, good_empty}
use Rattle.runs.proofs.Standing.{stands-holds, holds-stands}

module _ {K C : Type 0} where
  -- CHANGES: of each that begins in these acts.
  pub changes-map : (P Q : Edit K C → Type 0) → ((e : Edit K C) → P e → Q e) → (acts : List (Act K C)) → Changes P acts → Changes Q acts
  changes-map P Q f [] x = tt
  changes-map P Q f (starts next e ∷ acts) x = (f e x.0, changes-map P Q f acts x.1)
  changes-map P Q f (writes ∷ acts) x = changes-map P Q f acts x
  changes-map P Q f (turns ∷ acts) x = changes-map P Q f acts x
  changes-map P Q f (stops ∷ acts) x = changes-map P Q f acts x
  changes-map P Q f (looks ∷ acts) x = changes-map P Q f acts x

  pub changes_first : (P : Edit K C → Type 0) (acts more : List (Act K C)) → Changes P (acts ++ more) → Changes P acts
  changes_first P [] more x = tt
  changes_first P (starts next e ∷ acts) more x = (x.0, changes_first P acts more x.1)
  changes_first P (writes ∷ acts) more x = changes_first P acts more x
  changes_first P (turns ∷ acts) more x = changes_first P acts more x
  changes_first P (stops ∷ acts) more x = changes_first P acts more x
  changes_first P (looks ∷ acts) more x = changes_first P acts more x

  pub changes_rest : (P : Edit K C → Type 0) (acts more : List (Act K C)) → Changes P (acts ++ more) → Changes P more
  changes_rest P [] more x = x
  changes_rest P (starts next e ∷ acts) more x = changes_rest P acts more x.1
  changes_rest P (writes ∷ acts) more x = changes_rest P acts more x
  changes_rest P (turns ∷ acts) more x = changes_rest P acts more x
  changes_rest P (stops ∷ acts) more x = changes_rest P acts more x
  changes_rest P (looks ∷ acts) more x = changes_rest P acts more x

  pub run-joined : (d : ℕ) (acts more : List (Act K C)) (s : State K C) → run d (acts ++ more) s ≡ run d more (run d acts s)
  run-joined d [] more s = refl
  run-joined d (a ∷ acts) more s = run-joined d acts more (step d a s)

  handed-joined : (acts more : List (Act K C)) → handed (acts ++ more) ≡ handed acts ++ handed more
  handed-joined [] more = refl
  handed-joined (starts next e ∷ acts) more = ap (λ x. drawn e ++ x) (handed-joined acts more) ∙ sym (append_assoc (drawn e) (handed acts) (handed more))
  handed-joined (writes ∷ acts) more = handed-joined acts more
  handed-joined (turns ∷ acts) more = handed-joined acts more
  handed-joined (stops ∷ acts) more = handed-joined acts more
  handed-joined (looks ∷ acts) more = handed-joined acts more

  -- KEYS: a record written, and the chip turned, draw none.
  wrote-drawn : (s : State K C) (p : Pending K C) → s.drawn ≡ (wrote s p).drawn
  wrote-drawn s idle = refl
  wrote-drawn s (busy [] t) = refl
  wrote-drawn s (busy (r ∷ rs) t) = refl

  pub turned-drawn : (s : State K C) (p : Pending K C) → s.drawn ≡ (turned s p).drawn
  turned-drawn s idle = refl
  turned-drawn s (busy [] t) = refl
  turned-drawn s (busy (r ∷ rs) t) = refl

  -- All that is drawn by the end was drawn before, or in these acts.
  run-drawn : (d : ℕ) (acts : List (Act K C)) (s : State K C) → Within (run d acts s).drawn (handed acts ++ s.drawn)
  run-drawn d [] s k m = m
  run-drawn d (starts next e ∷ acts) s k m =
      in_joined (handed acts) (run-drawn d acts (step d (starts next e) s) k m) (λ x. Memᴰ.append_left s.drawn (Memᴰ.append_right (drawn e) x))
      (λ x. in_joined (drawn e) x (λ y. Memᴰ.append_left s.drawn (Memᴰ.append_left (handed acts) y)) (λ y. Memᴰ.append_right (drawn e ++ handed acts) y))
  run-drawn d (writes ∷ acts) s k m = subst (λ (X : List K). Memᴰ k (handed acts ++ X)) (sym (wrote-drawn s s.pending)) (run-drawn d acts (step d writes s) k m)
  run-drawn d (turns ∷ acts) s k m = subst (λ (X : List K). Memᴰ k (handed acts ++ X)) (sym (turned-drawn s s.pending)) (run-drawn d acts (step d turns s) k m)
  run-drawn d (stops ∷ acts) s k m = run-drawn d acts (step d stops s) k m
  run-drawn d (looks ∷ acts) s k m = run-drawn d acts (step d looks s) k m

  -- GOOD at every moment.
  abbrev pub GoodState : ℕ → K → State K C → Type 0
  GoodState d z s = Good (root d) z s.tree s.pending s.written s.drawn s.looks

  module _ (d : ℕ) (z : K) where
    abbrev Pended : State K C → Pending K C → Type 0
    Pended s p = Good (root d) z s.tree p s.written s.drawn s.looks

    good_writes : (s : State K C) (p : Pending K C) → s.pending ≡ p → GoodState d z s → GoodState d z (wrote s p)
    good_writes s idle e g = g
    good_writes s (busy [] t) e g = g
    good_writes s (busy (r ∷ rs) t) e g = good_wrote (root d) z s.tree s.written s.drawn s.looks r rs t (subst (Pended s) e g)

    pub good_turns : (s : State K C) (p : Pending K C) → s.pending ≡ p → GoodState d z s → GoodState d z (turned s p)
    good_turns s idle e g = g
    good_turns s (busy [] t) e g = good_turned (root d) z s.tree s.written s.drawn s.looks t (subst (Pended s) e g)
    good_turns s (busy (r ∷ rs) t) e g = g

    -- One lawful change begins; the law of changes is used here and nowhere else.
    good_starts : (next : ℕ) (e : Edit K C) (s : State K C) → Apart (drawn e) → New s.drawn (drawn e) → GoodState d z s → GoodState d z (step d (starts next e) s)
    good_starts next e s apart new g =
        good_started (root d) z s.tree s.written s.drawn s.looks (drawn e) (records next (root d) e s.tree) (edited e s.tree) (lawful next (root d) e s.tree apart) new
        s.pending g

    pub good_run : (acts : List (Act K C)) (s : State K C) → Apart (handed acts) → New s.drawn (handed acts) → GoodState d z s → GoodState d z (run d acts s)
    good_run [] s a n g = g
    good_run (starts next e ∷ acts) s a n g =
        let p = split (drawn e) (handed acts) a in
        good_run acts (step d (starts next e) s) p.second
        (λ k m b. in_joined (drawn e) b (λ x. p.between k m x) (λ x. n k (Memᴰ.append_right (drawn e) m) x)) (good_starts next e s p.first (λ k m b. n k (Memᴰ.append_left (handed acts) m) b) g)
    good_run (writes ∷ acts) s a n g = good_run acts (step d writes s) a (subst (λ (X : List K). New X (handed acts)) (wrote-drawn s s.pending) n) (good_writes s s.pending refl g)
    good_run (turns ∷ acts) s a n g = good_run acts (step d turns s) a (subst (λ (X : List K). New X (handed acts)) (turned-drawn s s.pending) n) (good_turns s s.pending refl g)
    good_run (stops ∷ acts) s a n g = good_run acts (step d stops s) a n (good_stopped (root d) z s.tree s.written s.drawn s.looks s.pending g)
    good_run (looks ∷ acts) s a n g = good_run acts (step d looks s) a n (good_looked (root d) z s.tree s.written s.drawn s.looks s.pending g)

  -- KEPT at every moment: P of the tree, of the one that the change under way makes, and of each looked at, where each change keeps P.
  abbrev pub NextKept : (P : Tree K C → Type 0) → Pending K C → Type 0
  NextKept P idle = Unit {0}
  NextKept P (busy rs t) = P t

  pub record Kept (P : Tree K C → Type 0) (s : State K C) : Type 0 where
    pub now : P s.tree
    pub next : NextKept P s.pending
    pub seen : (r : Tree K C) → Memᴰ r s.looks → P r

  abbrev pub Keeps : (P : Tree K C → Type 0) → Edit K C → Type 0
  Keeps P e = (t : Tree K C) → P t → P (edited e t)

  module _ (P : Tree K C → Type 0) (d : ℕ) where
    kept-writes : (s : State K C) (p : Pending K C) → NextKept P p → Kept P s → Kept P (wrote s p)
    kept-writes s idle n g = g
    kept-writes s (busy [] t) n g = g
    kept-writes s (busy (r ∷ rs) t) n g = record { now = g.now; next = n; seen = g.seen }

    pub kept-turns : (s : State K C) (p : Pending K C) → NextKept P p → Kept P s → Kept P (turned s p)
    kept-turns s idle n g = g
    kept-turns s (busy [] t) n g = record { now = n; next = tt; seen = g.seen }
    kept-turns s (busy (r ∷ rs) t) n g = g

    pub kept_run : (acts : List (Act K C)) (s : State K C) → Changes (Keeps P) acts → Kept P s → Kept P (run d acts s)
    kept_run [] s x g = g
    kept_run (starts next e ∷ acts) s x g = kept_run acts (step d (starts next e) s) x.1 (record { now = g.now; next = x.0 s.tree g.now; seen = g.seen })
    kept_run (writes ∷ acts) s x g = kept_run acts (step d writes s) x (kept-writes s s.pending g.next g)
    kept_run (turns ∷ acts) s x g = kept_run acts (step d turns s) x (kept-turns s s.pending g.next g)
    kept_run (stops ∷ acts) s x g = kept_run acts (step d stops s) x (record { now = g.now; next = tt; seen = g.seen })
    kept_run (looks ∷ acts) s x g =
        kept_run acts (step d looks s) x (record { now = g.now; next = g.next; seen = λ r m. in_cons m (λ e. subst P (sym e) g.now) (g.seen r) })

    pub kept-start : (z : K) → P bare → Kept P (start z)
    kept-start z b = record { now = b; next = tt; seen = λ r m. in_none m }

  -- ALLOWED RUNS are good, keep their levels, and draw new keys.
  pub record Sound (d : ℕ) (z : K) (s : State K C) : Type 0 where
    pub good : GoodState d z s
    pub levels : Kept (Levels d) s

  -- The keys drawn from here on are apart, and new.
  pub record Ahead (d : ℕ) (s : State K C) (acts : List (Act K C)) : Type 0 where
    pub places : Changes (AtPlaces d) acts
    pub apart : Apart (handed acts)
    pub new : New s.drawn (handed acts)

  pub sound_run : (d : ℕ) (z : K) (acts : List (Act K C)) (s : State K C) → Ahead d s acts → Sound d z s → Sound d z (run d acts s)
  sound_run d z acts s a g =
      record {
        good = good_run d z acts s a.apart a.new g.good;
        levels = kept_run (Levels d) d acts s (changes-map (AtPlaces d) (Keeps (Levels d)) (λ e p t l. edited_levels d e t p l) acts a.places) g.levels;
      }

  pub sound_start : (d : ℕ) (z : K) → Sound d z (start z)
  sound_start d z = record { good = good_empty (root d) z; levels = kept-start (Levels d) d z tt }

  pub ahead_start : (d : ℕ) (z : K) (acts : List (Act K C)) → Allowed d z acts → Ahead d (start z) acts
  ahead_start d z acts a = record { places = a.places; apart = a.new.1; new = λ k m b. a.new.0 (Memᴰ.cast (sym (Memᴰ.eq_of_singleton b)) m) }

  -- Of acts one after another: the first are allowed, and so are the rest after them.
  pub ahead_first : (d : ℕ) (s : State K C) (acts more : List (Act K C)) → Ahead d s (acts ++ more) → Ahead d s acts
  ahead_first d s acts more a =
      let p = split (handed acts) (handed more) (subst Apart (handed-joined acts more) a.apart) in
      record {
        places = changes_first (AtPlaces d) acts more a.places;
        apart = p.first;
        new = λ k m b. a.new k (subst (λ (X : List K). Memᴰ k X) (sym (handed-joined acts more)) (Memᴰ.append_left (handed more) m)) b;
      }

  pub ahead_rest : (d : ℕ) (s : State K C) (acts more : List (Act K C)) → Ahead d s (acts ++ more) → Ahead d (run d acts s) more
  ahead_rest d s acts more a =
      let p = split (handed acts) (handed more) (subst Apart (handed-joined acts more) a.apart) in
      record {
        places = changes_rest (AtPlaces d) acts more a.places;
        apart = p.second;
        new = λ k m b.
            in_joined (handed acts) (run-drawn d acts s k b) (λ x. p.between k m x)
            (λ x. a.new k (subst (λ (X : List K). Memᴰ k X) (sym (handed-joined acts more)) (Memᴰ.append_right (handed acts) m)) x);
      }

  pub sound_allowed : (d : ℕ) (z : K) (acts : List (Act K C)) → Allowed d z acts → Sound d z (run d acts (start z))
  sound_allowed d z acts a = sound_run d z acts (start z) (ahead_start d z acts a) (sound_start d z)

  -- WHAT CAN BE OPENED at a moment, with the chip's keys of trees under whose keys just what belongs there is written.
  abbrev pub Known : ℕ → State K C → Tree K C → Type 0
  Known d s r = ((at : Node) × Each at (At s.drawn (s.written ++ left_of s.pending) s.written) r) × Levels d r

  module _ (d : ℕ) (z : K) (s : State K C) (g : Sound d z s) where
    pub seen_known : (r : Tree K C) → Memᴰ r s.looks → Known d s r
    seen_known r m = (g.good.seen r m, g.levels.seen r m)

    pub now_known : (r : Tree K C) → Memᴰ r (s.tree ∷ []) → Known d s r
    now_known r m = subst (Known d s) (sym (Memᴰ.eq_of_singleton m)) ((root d, g.good.now), g.levels.now)

    module _ (rs : List (Tree K C)) (known : (r : Tree K C) → Memᴰ r rs → Known d s r) (c : C) where
      pub opens-only : Opens (map (chip_key z) rs) s.written c → (r : Tree K C) × Memᴰ r rs × Stands d r c
      opens-only o =
          let f = only-held z s.written (λ w m. g.good.no_zeros w (Memᴰ.append_left (left_of s.pending) m)) rs
          (λ r m. ((known r m).0.0, λ u os n w q i. ((known r m).0.1 u os n).only w q (Memᴰ.append_left (left_of s.pending) i))) c o in
          (f.0, f.1, holds-stands d f.0 c (known f.0 f.1).1 f.2)

      pub opens-all : ((r : Tree K C) × Memᴰ r rs × Stands d r c) → Opens (map (chip_key z) rs) s.written c
      opens-all (r, m, (p, less, e)) = held-opens (known r m).0.0 z s.written rs r m (λ u os n. ((known r m).0.1 u os n).all) c (stands-holds d p r c e)

pub rule : (K C : Type 0) → Rule K C
rule K C d z acts allowed rs sub c =
    let s = run d acts (start z) in
    let g = sound_allowed d z acts allowed in
    let known : (r : Tree K C) → Memᴰ r rs → Known d s r = λ r m. seen_known d z s g r (sub r m) in
    (opens-only d z s g rs known c, opens-all d z s g rs known c)

module _ {K C : Type 0} where
  -- With other looks.
  abbrev looking : State K C → List (Tree K C) → State K C
  looking s rs = record { tree = s.tree; pending = s.pending; written = s.written; drawn = s.drawn; looks = rs }

  wrote_looking : (s : State K C) (rs : List (Tree K C)) (p : Pending K C) → wrote (looking s (s.looks ++ rs)) p ≡ looking (wrote s p) ((wrote s p).looks ++ rs)
  wrote_looking s rs idle = refl
  wrote_looking s rs (busy [] t) = refl
  wrote_looking s rs (busy (x ∷ xs) t) = refl

  turned_looking : (s : State K C) (rs : List (Tree K C)) (p : Pending K C) → turned (looking s (s.looks ++ rs)) p ≡ looking (turned s p) ((turned s p).looks ++ rs)
  turned_looking s rs idle = refl
  turned_looking s rs (busy [] t) = refl
  turned_looking s rs (busy (x ∷ xs) t) = refl

  step_looking : (d : ℕ) (a : Act K C) (s : State K C) (rs : List (Tree K C)) → step d a (looking s (s.looks ++ rs)) ≡ looking (step d a s) ((step d a s).looks ++ rs)
  step_looking d (starts next e) s rs = refl
  step_looking d writes s rs = wrote_looking s rs s.pending
  step_looking d turns s rs = turned_looking s rs s.pending
  step_looking d stops s rs = refl
  step_looking d looks s rs = refl

  run_looking : (d : ℕ) (acts : List (Act K C)) (s : State K C) (rs : List (Tree K C)) → run d acts (looking s (s.looks ++ rs)) ≡ looking (run d acts s) ((run d acts s).looks ++ rs)
  run_looking d [] s rs = refl
  run_looking d (a ∷ acts) s rs = ap (run d acts) (step_looking d a s rs) ∙ run_looking d acts (step d a s) rs

pub looks_from : (K C : Type 0) → LooksFrom K C
looks_from K C d acts s =
    let e = run_looking d acts (unread s) s.looks in
    (ap (λ (x : State K C). x.looks) e, ap (λ (x : State K C). x.written) e, ap (λ (x : State K C). x.tree) e)
