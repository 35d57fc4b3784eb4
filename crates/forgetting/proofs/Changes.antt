-- Every change whose keys are apart is lawful.
use Rattle.std.proofs.Common.{◌≡◌, ℕ, ◌⊎◌, List, [], ◌∷◌, ◌++◌, sym, ap, ◌∙◌, subst, inl, inr, arith}
use mathlib.Core.List.Memᴰ
use mathlib.Core.List.{Memᴰ}
use Rattle.forgetting.specs.Secret.{Node, Sealed, Content, under, slot}
use Rattle.forgetting.specs.Tree.{Tree, bare, leaf, node, even_of, odd_of, child, link}
use Rattle.forgetting.specs.Change.{Edit, same, puts, takes, fork, edited, drawn, records, things, sealings, is_same, in_turn}
use Rattle.forgetting.specs.Lawful.{Apart, New, NodeIn, NewNode, Lawful, ChangeLawful}
use Rattle.forgetting.proofs.Members.{Within, either, in_none, in_joined, within_joined, Split, split, things-joined, things-sealings, from_turn, to_turn}

-- All is sealed under these keys.
abbrev pub Unders : {K C : Type 0} → List K → List (Sealed K C) → Type 0
Unders {K} {C} ks ws = (w : Sealed K C) → Memᴰ w ws → Memᴰ (under w) ks

-- Under one key and one nonce is just one thing.
abbrev pub Once : {K C : Type 0} → List (Sealed K C) → Type 0
Once {K} {C} ws = (v w : Sealed K C) → Memᴰ v ws → Memᴰ w ws → under v ≡ under w → slot v ≡ slot w → v ≡ w

module _ {K C : Type 0} where
  -- A LINK is one thing at most, under the key and in the slot that it says.
  link-under : (at : Node) (s : ℕ) (u : K) (t : Tree K C) (w : Sealed K C) → Memᴰ w (link at s u t) → under w ≡ u
  link-under at s u bare w m = in_none m
  link-under at s u (leaf k c) w m = ap under (Memᴰ.eq_of_singleton m)
  link-under at s u (node k l r) w m = ap under (Memᴰ.eq_of_singleton m)

  link-slot : (at : Node) (s : ℕ) (u : K) (t : Tree K C) (w : Sealed K C) → Memᴰ w (link at s u t) → slot w ≡ s
  link-slot at s u bare w m = in_none m
  link-slot at s u (leaf k c) w m = ap slot (Memᴰ.eq_of_singleton m)
  link-slot at s u (node k l r) w m = ap slot (Memᴰ.eq_of_singleton m)

  link-one : (at : Node) (s : ℕ) (u : K) (t : Tree K C) (v w : Sealed K C) → Memᴰ v (link at s u t) → Memᴰ w (link at s u t) → v ≡ w
  link-one at s u bare v w a b = in_none a
  link-one at s u (leaf k c) v w a b = Memᴰ.eq_of_singleton a ∙ sym (Memᴰ.eq_of_singleton b)
  link-one at s u (node k l r) v w a b = Memᴰ.eq_of_singleton a ∙ sym (Memᴰ.eq_of_singleton b)

  -- What belongs under a node's key.
  abbrev pub links : Node → K → (l r : Tree K C) → List (Sealed K C)
  links at k l r = link (child at 0) 0 k l ++ link (child at 1) 1 k r

  -- All of it is under that key, and one thing in each slot.
  links_under : (at : Node) (k : K) (l r : Tree K C) (w : Sealed K C) → Memᴰ w (links at k l r) → under w ≡ k
  links_under at k l r w m = in_joined (link (child at 0) 0 k l) m (link-under (child at 0) 0 k l w) (link-under (child at 1) 1 k r w)

  links_once : (at : Node) (k : K) (l r : Tree K C) → Once (links at k l r)
  links_once at k l r v w a b e n =
      in_joined L a
      (λ x. in_joined L b (λ y. link-one (child at 0) 0 k l v w x y) (λ y. absurd (clash (link-slot (child at 0) 0 k l v x) (link-slot (child at 1) 1 k r w y) n)))
      (λ x. in_joined L b (λ y. absurd (clash (link-slot (child at 0) 0 k l w y) (link-slot (child at 1) 1 k r v x) (sym n))) (λ y. link-one (child at 1) 1 k r v w x y))
    where
      L : List (Sealed K C)
      L = link (child at 0) 0 k l

      clash : {m n : ℕ} → m ≡ 0 → n ≡ 1 → m ≡ n → ⊥
      clash p q e = omega arith

  -- Under which keys two lists joined are, and a list with the links of a node.
  unders_joined : (ks js : List K) (vs ws : List (Sealed K C)) → Unders ks vs → Unders js ws → Unders (ks ++ js) (vs ++ ws)
  unders_joined ks js vs ws us ut w m = in_joined vs m (λ x. Memᴰ.append_left js (us w x)) (λ x. Memᴰ.append_right ks (ut w x))

  unders_node : (ks : List K) (ws : List (Sealed K C)) (at : Node) (k : K) (l r : Tree K C) → Unders ks ws → Unders (k ∷ ks) (ws ++ links at k l r)
  unders_node ks ws at k l r us w m = in_joined ws m (λ x. Memᴰ.tail (us w x)) (λ x. Memᴰ.head (links_under at k l r w x))

  -- Two lists under keys that are apart have one thing under each key and nonce if each has.
  pub once-joined : (ks js : List K) (vs ws : List (Sealed K C)) → Unders ks vs → Unders js ws → New ks js → Once vs → Once ws → Once (vs ++ ws)
  once-joined ks js vs ws us ut new ov ow v w a b e n =
      in_joined vs a
      (λ x. in_joined vs b (λ y. ov v w x y e n) (λ y. absurd (new (under w) (ut w y) (Memᴰ.cast (sym e) (us v x)))))
      (λ x. in_joined vs b (λ y. absurd (new (under v) (ut v x) (Memᴰ.cast e (us w y)))) (λ y. ow v w x y e n))

  -- A CHANGE OF A NODE writes what the changes of both sides write, and then the links of the new node, in turn.
  abbrev below : ℕ → Node → (a b : Edit K C) → Tree K C → List (Sealed K C)
  below next at a b t = things (records next (child at 0) a (even_of t)) ++ things (records next (child at 1) b (odd_of t))

  abbrev pub new_links : Node → K → (a b : Edit K C) → Tree K C → List (Sealed K C)
  new_links at k a b t = links at k (edited a (even_of t)) (edited b (odd_of t))

  module _ (next : ℕ) (at : Node) (k : K) (a b : Edit K C) (t : Tree K C) where
    abbrev turned : List (Sealed K C)
    turned = in_turn (is_same a) (link (child at 0) 0 k (edited a (even_of t))) (link (child at 1) 1 k (edited b (odd_of t)))

    fork-things : things (records next at (fork k a b) t) ≡ below next at a b t ++ turned
    fork-things =
        let A = records next (child at 0) a (even_of t) in
        let B = records next (child at 1) b (odd_of t) in
        cc (things-joined (A ++ B) (sealings turned), things-joined A B, things-sealings turned)

    -- So it writes the same as without the turn.
    from_fork : Within (things (records next at (fork k a b) t)) (below next at a b t ++ new_links at k a b t)
    from_fork w m =
        within_joined (below next at a b t) (from_turn (is_same a) (link (child at 0) 0 k (edited a (even_of t))) (link (child at 1) 1 k (edited b (odd_of t)))) w
        (subst (λ (X : List (Sealed K C)). Memᴰ w X) fork-things m)

    to_fork : Within (below next at a b t ++ new_links at k a b t) (things (records next at (fork k a b) t))
    to_fork w m =
        subst (λ (X : List (Sealed K C)). Memᴰ w X) (sym fork-things)
        (within_joined (below next at a b t) (to_turn (is_same a) (link (child at 0) 0 k (edited a (even_of t))) (link (child at 1) 1 k (edited b (odd_of t)))) w m)

    -- What it writes is written by the change of a side, or is a link of the new node.
    pub in_fork : {P : Type 0} {w : Sealed K C} → Memᴰ w (things (records next at (fork k a b) t)) → (Memᴰ w (things (records next (child at 0) a (even_of t))) → P) →
        (Memᴰ w (things (records next (child at 1) b (odd_of t))) → P) → (Memᴰ w (new_links at k a b t) → P) → P
    in_fork {w} m f g h = in_joined (below next at a b t) (from_fork w m) (λ x. in_joined (things (records next (child at 0) a (even_of t))) x f g) h

  -- All that a change writes is sealed under keys that it draws.
  pub records-under : (next : ℕ) (at : Node) (e : Edit K C) (t : Tree K C) → Unders (drawn e) (things (records next at e t))
  records-under next at same t w m = in_none m
  records-under next at (puts k c) t w m = Memᴰ.head (ap under (Memᴰ.eq_of_singleton m))
  records-under next at takes t w m = in_none m
  records-under next at (fork k a b) t w m =
      in_fork next at k a b t m (λ x. Memᴰ.tail (Memᴰ.append_left (drawn b) (records-under next (child at 0) a (even_of t) w x)))
      (λ x. Memᴰ.tail (Memᴰ.append_right (drawn a) (records-under next (child at 1) b (odd_of t) w x)))
      (λ x. Memᴰ.head (links_under at k (edited a (even_of t)) (edited b (odd_of t)) w x))

  -- THE PARTS OF WHICH A LAWFUL CHANGE IS MADE: nothing written, a place filled, a node with a new key.
  unwritten : (at : Node) (t x : Tree K C) → ((u : K) (os : List (Sealed K C)) → NodeIn at x u os → NodeIn at t u os) → Lawful at t [] [] x
  unwritten at t x f = record { under-new = λ w m. in_none m; once = λ v w a b e n. in_none a; nodes = λ u os n. inl (f u os n) }

  filled : (at : Node) (t : Tree K C) (k : K) (c : C) → Lawful at t (k ∷ []) (Content at 0 k c ∷ []) (leaf k c)
  filled at t k c =
      record {
        under-new = λ w m. Memᴰ.head (ap under (Memᴰ.eq_of_singleton m));
        once = λ v w a b e n. Memᴰ.eq_of_singleton a ∙ sym (Memᴰ.eq_of_singleton b);
        nodes = λ u os n. inr (record { is-drawn = Memᴰ.head n.0; only = λ w q m. rw n.1 m; all = λ w m. rw n.1 at m });
      }

  -- The sides' nodes are the tree's.
  even_in : (at : Node) (t : Tree K C) (u : K) (os : List (Sealed K C)) → NodeIn (child at 0) (even_of t) u os → NodeIn at t u os
  even_in at bare u os n = n
  even_in at (leaf k c) u os n = absurd n
  even_in at (node k l r) u os n = inr (inl n)

  odd_in : (at : Node) (t : Tree K C) (u : K) (os : List (Sealed K C)) → NodeIn (child at 1) (odd_of t) u os → NodeIn at t u os
  odd_in at bare u os n = n
  odd_in at (leaf k c) u os n = absurd n
  odd_in at (node k l r) u os n = inr (inr n)

  -- A new node stays one where more is written, under other keys.
  wider : (ks js : List K) (vs ws : List (Sealed K C)) (u : K) (os : List (Sealed K C)) → Within ks js → Within vs ws →
      ((w : Sealed K C) → Memᴰ u ks → under w ≡ u → Memᴰ w ws → Memᴰ w vs) → NewNode ks vs u os → NewNode js ws u os
  wider ks js vs ws u os f g only n =
      record { is-drawn = f u n.is-drawn; only = λ w q m. n.only w q (only w n.is-drawn q m); all = λ w m. g w (n.all w m) }

  -- The same written, in another order.
  reordered : (at : Node) (t x : Tree K C) (ks : List K) (vs ws : List (Sealed K C)) → Within vs ws → Within ws vs → Lawful at t ks vs x → Lawful at t ks ws x
  reordered at t x ks vs ws f g l =
      record {
        under-new = λ w m. l.under-new w (g w m);
        once = λ v w a b. l.once v w (g v a) (g w b);
        nodes = λ u os n. either (l.nodes u os n) (λ o. inl o) (λ o. inr (wider ks ks vs ws u os (λ k m. m) f (λ w i q m. g w m) o));
      }

  -- A node with a new key above two trees that lawful changes made.
  module _ (at : Node) (t l r : Tree K C) (k : K) (ka kb : List K) (A B : List (Sealed K C)) (la : Lawful (child at 0) (even_of t) ka A l) (lb : Lawful (child at 1) (odd_of t) kb B r)
      (apart : Apart (k ∷ (ka ++ kb))) where
    abbrev O : List (Sealed K C)
    O = links at k l r

    below_under : Unders (ka ++ kb) (A ++ B)
    below_under = unders_joined ka kb A B la.under-new lb.under-new

    own_under : Unders (k ∷ []) O
    own_under w m = Memᴰ.head (links_under at k l r w m)

    own_new : New (ka ++ kb) (k ∷ [])
    own_new x m a = apart.0 (Memᴰ.cast (sym (Memᴰ.eq_of_singleton m)) a)

    sides : Split ka kb
    sides = split ka kb apart.1

    -- The node itself is new, and a node that is new below is new here.
    new_here : (u : K) (os : List (Sealed K C)) → u ≡ k → os ≡ O → NewNode (k ∷ (ka ++ kb)) ((A ++ B) ++ O) u os
    new_here u os e f =
        record {
          is-drawn = Memᴰ.head e;
          only = λ w q m. in_joined (A ++ B) m (λ x. absurd (apart.0 (Memᴰ.cast (sym (q ∙ e)) (below_under w x)))) (λ x. rw f x);
          all = λ w m. Memᴰ.append_right (A ++ B) (rw f at m);
        }

    -- What is under a key drawn below is written below.
    drawn_below : (u : K) → Memᴰ u (ka ++ kb) → (w : Sealed K C) → under w ≡ u → Memᴰ w ((A ++ B) ++ O) → Memᴰ w (A ++ B)
    drawn_below u i w q m = in_joined (A ++ B) m (λ x. x) (λ x. absurd (apart.0 (Memᴰ.cast (sym (links_under at k l r w x) ∙ q) i)))

    new_even : (u : K) (os : List (Sealed K C)) → NewNode ka A u os → NewNode (k ∷ (ka ++ kb)) ((A ++ B) ++ O) u os
    new_even u os n =
        wider ka (k ∷ (ka ++ kb)) A ((A ++ B) ++ O) u os (λ x m. Memᴰ.tail (Memᴰ.append_left kb m)) (λ w m. Memᴰ.append_left O (Memᴰ.append_left B m))
        (λ w i q m. in_joined A (drawn_below u (Memᴰ.append_left kb i) w q m) (λ x. x) (λ x. absurd (sides.between u (Memᴰ.cast (sym q) (lb.under-new w x)) i))) n

    new_odd : (u : K) (os : List (Sealed K C)) → NewNode kb B u os → NewNode (k ∷ (ka ++ kb)) ((A ++ B) ++ O) u os
    new_odd u os n =
        wider kb (k ∷ (ka ++ kb)) B ((A ++ B) ++ O) u os (λ x m. Memᴰ.tail (Memᴰ.append_right ka m)) (λ w m. Memᴰ.append_left O (Memᴰ.append_right A m))
        (λ w i q m. in_joined A (drawn_below u (Memᴰ.append_right ka i) w q m) (λ x. absurd (sides.between u i (Memᴰ.cast (sym q) (la.under-new w x)))) (λ x. x)) n

    joined : Lawful at t (k ∷ (ka ++ kb)) ((A ++ B) ++ O) (node k l r)
    joined =
        record {
          under-new = unders_node (ka ++ kb) (A ++ B) at k l r below_under;
          once = once-joined (ka ++ kb) (k ∷ []) (A ++ B) O below_under own_under own_new
              (once-joined ka kb A B la.under-new lb.under-new sides.between la.once lb.once) (links_once at k l r);
          nodes = nodes;
        }
      where
        nodes : (u : K) (os : List (Sealed K C)) → NodeIn at (node k l r) u os → NodeIn at t u os ⊎ NewNode (k ∷ (ka ++ kb)) ((A ++ B) ++ O) u os
        nodes u os (inl n) = inr (new_here u os n.0 n.1)
        nodes u os (inr (inl n)) = either (la.nodes u os n) (λ x. inl (even_in at t u os x)) (λ x. inr (new_even u os x))
        nodes u os (inr (inr n)) = either (lb.nodes u os n) (λ x. inl (odd_in at t u os x)) (λ x. inr (new_odd u os x))

  -- Every change whose keys are apart is lawful, at any node.
  pub lawful : (next : ℕ) (at : Node) (e : Edit K C) (t : Tree K C) → Apart (drawn e) → Lawful at t (drawn e) (things (records next at e t)) (edited e t)
  lawful next at same t a = unwritten at t t (λ u os n. n)
  lawful next at (puts k c) t a = filled at t k c
  lawful next at takes t a = unwritten at t bare (λ u os n. absurd n)
  lawful next at (fork k x y) t a =
      let s = split (drawn x) (drawn y) a.1 in
      let A = things (records next (child at 0) x (even_of t)) in
      let B = things (records next (child at 1) y (odd_of t)) in
      let l = edited x (even_of t) in
      let r = edited y (odd_of t) in
      reordered at t (node k l r) (drawn (fork k x y)) ((A ++ B) ++ links at k l r) (things (records next at (fork k x y) t)) (to_fork next at k x y t) (from_fork next at k x y t)
      (joined at t l r k (drawn x) (drawn y) A B (lawful next (child at 0) x (even_of t) s.first) (lawful next (child at 1) y (odd_of t) s.second) a)

pub change_lawful : (K C : Type 0) → ChangeLawful K C
change_lawful K C next at e t apart = lawful next at e t apart
