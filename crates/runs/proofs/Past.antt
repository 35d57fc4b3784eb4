-- The tree at any moment is that of a history of whole changes.
use Rattle.std.proofs.Common.{◌≡◌, ℕ, List, [], ◌∷◌, ◌++◌, sym, refl, subst, append_assoc}
use mathlib.Core.List.Memᴰ
use Rattle.forgetting.specs.Secret.{Sealed}
use Rattle.forgetting.specs.Tree.{Tree}
use Rattle.forgetting.specs.Change.{Edit, edited, drawn, things, records}
use Rattle.forgetting.specs.Lawful.{Apart, New}
use Rattle.forgetting.specs.History.{AtPlaces, root, History, begin, change}
use Rattle.forgetting.proofs.Members.{Within, in_none, in_joined, within_joined, things-joined, split}
use Rattle.runs.specs.Moments.{Pending, idle, busy, State, start, Act, starts, writes, turns, stops, looks, wrote, turned, step, run, handed}
use Rattle.runs.specs.Consequences.{OfHistory}
use Rattle.runs.proofs.Steps.{left_of}
use Rattle.runs.proofs.Running.{NextKept, Ahead, ahead_start, ahead_rest}

module _ {K C : Type 0} (d : ℕ) where
  -- A history of the tree, with keys among ks and records among ws.
  record Past (ks : List K) (ws : List (Sealed K C)) (t : Tree K C) : Type 0 where
    pub keys : List K
    pub written : List (Sealed K C)
    pub history : History d t keys written
    pub keys_in : Within keys ks
    pub written_in : Within written ws

  widened : (ks ks' : List K) (ws ws' : List (Sealed K C)) (t : Tree K C) → Within ks ks' → Within ws ws' → Past ks ws t → Past ks' ws' t
  widened ks ks' ws ws' t f g p =
      record { keys = p.keys; written = p.written; history = p.history; keys_in = λ k m. f k (p.keys_in k m); written_in = λ w m. g w (p.written_in w m) }

  changed : (ks : List K) (ws : List (Sealed K C)) (t : Tree K C) (next : ℕ) (e : Edit K C) → AtPlaces d e → Apart (drawn e) → New ks (drawn e) → Past ks ws t →
      Past (drawn e ++ ks) (ws ++ things (records next (root d) e t)) (edited e t)
  changed ks ws t next e places apart new p =
      record {
        keys = drawn e ++ p.keys;
        written = p.written ++ things (records next (root d) e t);
        history = change next e p.history places apart (λ k m n. new k m (p.keys_in k n));
        keys_in = within_joined (drawn e) p.keys_in;
        written_in = λ w m. in_joined p.written m (λ x. Memᴰ.append_left (things (records next (root d) e t)) (p.written_in w x)) (λ x. Memᴰ.append_right ws x);
      }

  -- AT EVERY MOMENT there is one of the tree, and one of the tree that the change under way makes, with the records that are left.
  record Pasts (t : Tree K C) (p : Pending K C) (ws : List (Sealed K C)) (ks : List K) : Type 0 where
    pub now : Past ks ws t
    pub next : NextKept (Past ks (ws ++ left_of p)) p

  abbrev PastsState : State K C → Type 0
  PastsState s = Pasts s.tree s.pending s.written s.drawn

  pasts_starts : (next : ℕ) (e : Edit K C) (s : State K C) → AtPlaces d e → Apart (drawn e) → New s.drawn (drawn e) → PastsState s → PastsState (step d (starts next e) s)
  pasts_starts next e s places apart new g =
      record {
        now = widened s.drawn (drawn e ++ s.drawn) s.written s.written s.tree (λ k m. Memᴰ.append_right (drawn e) m) (λ w m. m) g.now;
        next = changed s.drawn s.written s.tree next e places apart new g.now;
      }

  pasts_writes : (s : State K C) (p : Pending K C) → s.pending ≡ p → PastsState s → PastsState (wrote s p)
  pasts_writes s idle e g = g
  pasts_writes s (busy [] t) e g = g
  pasts_writes s (busy (r ∷ rs) t) e g =
      let h : Pasts s.tree (busy (r ∷ rs) t) s.written s.drawn = subst (λ (p : Pending K C). Pasts s.tree p s.written s.drawn) e g in
      let same : (s.written ++ things (r ∷ [])) ++ things rs ≡ s.written ++ things (r ∷ rs) = cc (append_assoc s.written (things (r ∷ [])) (things rs), things-joined (r ∷ []) rs) in
      record {
        now = widened s.drawn s.drawn s.written (s.written ++ things (r ∷ [])) s.tree (λ k m. m) (λ w m. Memᴰ.append_left (things (r ∷ [])) m) h.now;
        next = subst (λ (ws : List (Sealed K C)). Past s.drawn ws t) (sym same) h.next;
      }

  pasts_turns : (s : State K C) (p : Pending K C) → s.pending ≡ p → PastsState s → PastsState (turned s p)
  pasts_turns s idle e g = g
  pasts_turns s (busy [] t) e g =
      let h : Pasts s.tree (busy [] t) s.written s.drawn = subst (λ (p : Pending K C). Pasts s.tree p s.written s.drawn) e g in
      record { now = widened s.drawn s.drawn (s.written ++ []) s.written t (λ k m. m) (λ w m. in_joined s.written m (λ x. x) (λ x. in_none x)) h.next; next = tt }
  pasts_turns s (busy (r ∷ rs) t) e g = g

  pasts_run : (acts : List (Act K C)) (s : State K C) → Ahead d s acts → PastsState s → PastsState (run d acts s)
  pasts_run [] s a g = g
  pasts_run (starts next e ∷ acts) s a g =
      let p = split (drawn e) (handed acts) a.apart in
      pasts_run acts (step d (starts next e) s) (ahead_rest d s (starts next e ∷ []) acts a)
      (pasts_starts next e s a.places.0 p.first (λ k m n. a.new k (Memᴰ.append_left (handed acts) m) n) g)
  pasts_run (writes ∷ acts) s a g = pasts_run acts (step d writes s) (ahead_rest d s (writes ∷ []) acts a) (pasts_writes s s.pending refl g)
  pasts_run (turns ∷ acts) s a g = pasts_run acts (step d turns s) (ahead_rest d s (turns ∷ []) acts a) (pasts_turns s s.pending refl g)
  pasts_run (stops ∷ acts) s a g = pasts_run acts (step d stops s) (ahead_rest d s (stops ∷ []) acts a) (record { now = g.now; next = tt })
  pasts_run (looks ∷ acts) s a g = pasts_run acts (step d looks s) (ahead_rest d s (looks ∷ []) acts a) (record { now = g.now; next = g.next })

pub of_history : (K C : Type 0) → OfHistory K C
of_history K C d z acts allowed =
    let p = (pasts_run d acts (start z) (ahead_start d z acts allowed) (record { now = record { keys = []; written = []; history = begin; keys_in = λ k m. in_none m; written_in = λ w m. in_none m }; next = tt })).now in
    (p.keys, p.written, p.history, p.keys_in, p.written_in)
