-- WHAT HOLDS AT EVERY MOMENT of a run of lawful changes. Of a change nothing is used but that it is lawful and that its keys are new.
use Rattle.std.proofs.Common.{◌≡◌, List, [], ◌∷◌, ◌++◌, sym, refl, subst, append_assoc}
use mathlib.Core.List.Memᴰ
use mathlib.Core.List.{Memᴰ}
use Rattle.forgetting.specs.Secret.{Node, Sealed, under}
use Rattle.forgetting.specs.Tree.{Tree, bare}
use Rattle.forgetting.specs.Change.{Record, things}
use Rattle.forgetting.specs.Lawful.{New, NodeIn, NewNode, Lawful}
use Rattle.forgetting.proofs.Members.{Within, either, in_none, in_cons, in_joined, things-joined}
use Rattle.forgetting.proofs.Changes.{Unders, Once, once-joined}
use Rattle.runs.specs.Moments.{Pending, idle, busy}
use Rattle.runs.proofs.Closure.{Each}

-- Of a node: its key is drawn, only what belongs under it is in may (all that is written, or that the change under way may still write), and all of that is in ws.
pub record At {K C : Type 0} (ks : List K) (may ws : List (Sealed K C)) (u : K) (os : List (Sealed K C)) : Type 0 where
  pub is-drawn : Memᴰ u ks
  pub only : (w : Sealed K C) → under w ≡ u → Memᴰ w may → Memᴰ w os
  pub all : Within os ws

-- What is left to write seals.
abbrev pub left_of : {K C : Type 0} → Pending K C → List (Sealed K C)
left_of idle = []
left_of (busy rs t) = things rs

-- The tree that the change under way makes will stand, once all is written.
abbrev pub NextStands : {K C : Type 0} → Node → List K → List (Sealed K C) → Pending K C → Type 0
NextStands at ks ws idle = Unit {0}
NextStands at ks ws (busy rs t) = Each at (At ks (ws ++ things rs) (ws ++ things rs)) t

-- at: the root of the tree now. The trees looked at may have other roots, so that a store may grow.
pub record Good {K C : Type 0} (at : Node) (z : K) (t : Tree K C) (p : Pending K C) (ws : List (Sealed K C)) (ks : List K) (rs : List (Tree K C)) : Type 0 where
  pub now : Each at (At ks (ws ++ left_of p) ws) t
  pub next : NextStands at ks ws p
  pub seen : (r : Tree K C) → Memᴰ r rs → (rt : Node) × Each rt (At ks (ws ++ left_of p) ws) r
  pub unders : Unders ks (ws ++ left_of p)
  pub zeros_drawn : Memᴰ z ks
  pub no_zeros : (w : Sealed K C) → Memᴰ w (ws ++ left_of p) → under w ≡ z → ⊥
  pub once : Once (ws ++ left_of p)

module _ {K C : Type 0} where
  -- Less may still be written, and more is.
  moved : (at : Node) (ks : List K) (may may' ws ws' : List (Sealed K C)) → Within may' may → Within ws ws' → (t : Tree K C) → Each at (At ks may ws) t → Each at (At ks may' ws') t
  moved at ks may may' ws ws' f g t e u os n =
      let a = e u os n in
      record { is-drawn = a.is-drawn; only = λ w q m. a.only w q (f w m); all = λ w m. g w (a.all w m) }

  -- A change begins: what it may write is under new keys.
  grown : (at : Node) (ks js : List K) (ws vs : List (Sealed K C)) → Unders js vs → New ks js → (t : Tree K C) → Each at (At ks ws ws) t → Each at (At (js ++ ks) (ws ++ vs) ws) t
  grown at ks js ws vs us new t e u os n =
      let a = e u os n in
      record {
        is-drawn = Memᴰ.append_right js a.is-drawn;
        only = λ w q m. in_joined ws m (a.only w q) (λ x. absurd (new u (Memᴰ.cast (sym q) (us w x)) a.is-drawn));
        all = a.all;
      }

  -- The tree that a lawful change makes.
  made : (at : Node) (ks js : List K) (ws vs : List (Sealed K C)) (t t' : Tree K C) → Unders ks ws → New ks js → Lawful at t js vs t' → Each at (At ks ws ws) t →
      Each at (At (js ++ ks) (ws ++ vs) (ws ++ vs)) t'
  made at ks js ws vs t t' old new lawful e u os n = either (lawful.nodes u os n) kept fresh
    where
      kept : NodeIn at t u os → At (js ++ ks) (ws ++ vs) (ws ++ vs) u os
      kept m = moved at (js ++ ks) (ws ++ vs) (ws ++ vs) ws (ws ++ vs) (λ x i. i) (λ x i. Memᴰ.append_left vs i) t (grown at ks js ws vs lawful.under-new new t e) u os m

      fresh : NewNode js vs u os → At (js ++ ks) (ws ++ vs) (ws ++ vs) u os
      fresh a =
          record {
            is-drawn = Memᴰ.append_left ks a.is-drawn;
            only = λ w q m. in_joined ws m (λ x. absurd (new u a.is-drawn (Memᴰ.cast (sym q) (old w x)))) (a.only w q);
            all = λ w m. Memᴰ.append_right ws (a.all w m);
          }

  module _ (at : Node) (z : K) (t : Tree K C) (ws : List (Sealed K C)) (ks : List K) (rs : List (Tree K C)) where
    -- The power fails: what was left to write never will be written.
    pub good_stopped : (p : Pending K C) → Good at z t p ws ks rs → Good at z t idle ws ks rs
    good_stopped p g =
        record {
          now = moved at ks (ws ++ left_of p) (ws ++ []) ws ws sub (λ x m. m) t g.now;
          next = tt;
          seen = λ r m. let o = g.seen r m in (o.0, moved o.0 ks (ws ++ left_of p) (ws ++ []) ws ws sub (λ x i. i) r o.1);
          unders = λ w m. g.unders w (sub w m);
          zeros_drawn = g.zeros_drawn;
          no_zeros = λ w m. g.no_zeros w (sub w m);
          once = λ v w a b. g.once v w (sub v a) (sub w b);
        }
      where
        sub : Within (ws ++ []) (ws ++ left_of p)
        sub x m = in_joined ws m (Memᴰ.append_left (left_of p)) (λ n. in_none n)

    -- A lawful change begins, with new keys.
    pub good_started : (js : List K) (left : List (Record K C)) (t' : Tree K C) → Lawful at t js (things left) t' → New ks js → (p : Pending K C) → Good at z t p ws ks rs →
        Good at z t (busy left t') ws (js ++ ks) rs
    good_started js left t' lawful new p g =
        record {
          now = grown at ks js ws (things left) us new t (old at t g.now);
          next = made at ks js ws (things left) t t' un new lawful (old at t g.now);
          seen = λ r m. let o = g.seen r m in (o.0, grown o.0 ks js ws (things left) us new r (old o.0 r o.1));
          unders = λ w m. in_joined ws m (λ x. Memᴰ.append_right js (un w x)) (λ x. Memᴰ.append_left ks (us w x));
          zeros_drawn = Memᴰ.append_right js g.zeros_drawn;
          no_zeros = λ w m e. in_joined ws m (λ x. g.no_zeros w (sub w x) e) (λ x. new (under w) (us w x) (Memᴰ.cast e g.zeros_drawn));
          once = once-joined ks js ws (things left) un us new (λ v w a b. g.once v w (sub v a) (sub w b)) lawful.once;
        }
      where
        sub : Within ws (ws ++ left_of p)
        sub x m = Memᴰ.append_left (left_of p) m

        us : Unders js (things left)
        us = lawful.under-new

        un : Unders ks ws
        un w m = g.unders w (sub w m)

        old : (rt : Node) (x : Tree K C) → Each rt (At ks (ws ++ left_of p) ws) x → Each rt (At ks ws ws) x
        old rt x e = moved rt ks (ws ++ left_of p) ws ws ws sub (λ y i. i) x e

    -- One record more.
    pub good_wrote : (r : Record K C) (left : List (Record K C)) (t' : Tree K C) → Good at z t (busy (r ∷ left) t') ws ks rs → Good at z t (busy left t') (ws ++ things (r ∷ [])) ks rs
    good_wrote r left t' g =
        record {
          now = carry at t g.now;
          next = moved at ks (ws ++ things (r ∷ left)) ((ws ++ things (r ∷ [])) ++ things left) (ws ++ things (r ∷ left)) ((ws ++ things (r ∷ [])) ++ things left) back forth t' g.next;
          seen = λ x m. let o = g.seen x m in (o.0, carry o.0 x o.1);
          unders = λ w m. g.unders w (back w m);
          zeros_drawn = g.zeros_drawn;
          no_zeros = λ w m. g.no_zeros w (back w m);
          once = λ v w a b. g.once v w (back v a) (back w b);
        }
      where
        same : (ws ++ things (r ∷ [])) ++ things left ≡ ws ++ things (r ∷ left)
        same = cc (append_assoc ws (things (r ∷ [])) (things left), things-joined (r ∷ []) left)

        back : Within ((ws ++ things (r ∷ [])) ++ things left) (ws ++ things (r ∷ left))
        back x m = subst (λ (X : List (Sealed K C)). Memᴰ x X) same m

        forth : Within (ws ++ things (r ∷ left)) ((ws ++ things (r ∷ [])) ++ things left)
        forth x m = subst (λ (X : List (Sealed K C)). Memᴰ x X) (sym same) m

        carry : (rt : Node) (x : Tree K C) → Each rt (At ks (ws ++ things (r ∷ left)) ws) x → Each rt (At ks ((ws ++ things (r ∷ [])) ++ things left) (ws ++ things (r ∷ []))) x
        carry rt x e = moved rt ks (ws ++ things (r ∷ left)) ((ws ++ things (r ∷ [])) ++ things left) ws (ws ++ things (r ∷ [])) back (λ y i. Memᴰ.append_left (things (r ∷ [])) i) x e

    -- All is written, and the chip gets the new root key.
    pub good_turned : (t' : Tree K C) → Good at z t (busy [] t') ws ks rs → Good at z t' idle ws ks rs
    good_turned t' g =
        record {
          now = moved at ks (ws ++ []) (ws ++ []) (ws ++ []) ws (λ x m. m) (λ x m. in_joined ws m (λ i. i) (λ n. in_none n)) t' g.next;
          next = tt;
          seen = g.seen;
          unders = g.unders;
          zeros_drawn = g.zeros_drawn;
          no_zeros = g.no_zeros;
          once = g.once;
        }

    -- Somebody reads the chip.
    pub good_looked : (p : Pending K C) → Good at z t p ws ks rs → Good at z t p ws ks (t ∷ rs)
    good_looked p g =
        record {
          now = g.now;
          next = g.next;
          seen = λ r m. in_cons m (λ e. (at, subst (λ (x : Tree K C). Each at (At ks (ws ++ left_of p) ws) x) (sym e) g.now)) (g.seen r);
          unders = g.unders;
          zeros_drawn = g.zeros_drawn;
          no_zeros = g.no_zeros;
          once = g.once;
        }

    -- Looks are left out.
    pub good_unread : (p : Pending K C) → Good at z t p ws ks rs → Good at z t p ws ks []
    good_unread p g = record { now = g.now; next = g.next; seen = λ r m. in_none m; unders = g.unders; zeros_drawn = g.zeros_drawn; no_zeros = g.no_zeros; once = g.once }

-- The empty store.
pub good_empty : {K C : Type 0} (at : Node) (z : K) → Good {K = K} {C = C} at z bare idle [] (z ∷ []) []
good_empty at z =
    record {
      now = λ u os n. absurd n;
      next = tt;
      seen = λ r m. in_none m;
      unders = λ w m. in_none m;
      zeros_drawn = Memᴰ.head refl;
      no_zeros = λ w m e. in_none m;
      once = λ v w a b e n. in_none a;
    }
