-- What can be opened with the chip's keys of trees under whose nodes' keys just what belongs there is written.
use Rattle.std.proofs.Common.{◌≡◌, ℕ, ◌⊎◌, List, [], ◌∷◌, ◌++◌, map, Some, None, Option, sym, refl, ap, inl, inr, arith}
use mathlib.Core.List.Memᴰ
use mathlib.Core.List.{Memᴰ}
use Rattle.forgetting.specs.Secret.{Node, Sealed, Key, Content, under, HasKey, had_it, opened, Opens, by}
use Rattle.forgetting.specs.Tree.{Tree, bare, leaf, node, key_of, child, link, Holds}
use Rattle.forgetting.specs.Lawful.{NodeIn}
use Rattle.forgetting.proofs.Members.{Within, either, in_none, in_joined}
use Rattle.forgetting.proofs.Keys.{key_not_content, same_key}
use Rattle.forgetting.proofs.Invariant.{opens}
use Rattle.runs.specs.Moments.{chip_key}

pub none_not_some : {A : Type 0} (a : A) → ◌≡◌ {A = Option A} None (Some a) → ⊥
none_not_some a e = let f : ◌≡◌ {A = ℕ} 0 1 = cc in omega arith

module _ {K C : Type 0} where
  -- Of each node of a tree P holds, of its key and what belongs under it.
  abbrev pub Each : Node → (P : K → List (Sealed K C) → Type 0) → Tree K C → Type 0
  Each at P t = (u : K) (os : List (Sealed K C)) → NodeIn at t u os → P u os

  -- Of what is in ws under the key u, all belongs there.
  abbrev pub Only : List (Sealed K C) → K → List (Sealed K C) → Type 0
  Only ws u os = (w : Sealed K C) → under w ≡ u → Memᴰ w ws → Memᴰ w os

  same-content : (at bt : Node) (s z : ℕ) (u v : K) (c x : C) → ◌≡◌ {A = Sealed K C} (Content at s u c) (Content bt z v x) → c ≡ x
  same-content at bt s z u v c x e = cc

  -- DOWN THE TREE. The key at the top is a node's.
  top : (at : Node) (t : Tree K C) (k : K) → key_of t ≡ Some k → (os : List (Sealed K C)) × NodeIn at t k os
  top at bare k e = absurd (none_not_some k e)
  top at (leaf j c) k e = (Content at 0 j c ∷ [], (cc, refl))
  top at (node j l r) k e = (link (child at 0) 0 j l ++ link (child at 1) 1 j r, inl (cc, refl))

  -- A link seals the key at the top, and no content.
  link-top : (at bt : Node) (s z : ℕ) (u v k : K) (t : Tree K C) → Memᴰ (Key at s u k) (link bt z v t) → key_of t ≡ Some k
  link-top at bt s z u v k bare m = in_none m
  link-top at bt s z u v k (leaf j c) m = ap Some (sym (same_key at bt s z u v k j (Memᴰ.eq_of_singleton m)))
  link-top at bt s z u v k (node j l r) m = ap Some (sym (same_key at bt s z u v k j (Memᴰ.eq_of_singleton m)))

  link-content : (at bt : Node) (s z : ℕ) (u v : K) (c : C) (t : Tree K C) → Memᴰ (Content at s u c) (link bt z v t) → ⊥
  link-content at bt s z u v c bare m = in_none m
  link-content at bt s z u v c (leaf j x) m = key_not_content bt at z s v u j c (sym (Memᴰ.eq_of_singleton m))
  link-content at bt s z u v c (node j l r) m = key_not_content bt at z s v u j c (sym (Memᴰ.eq_of_singleton m))

  -- A key that belongs under a node's key is a node's, and a content that does stands in the tree.
  below : (at bt : Node) (t : Tree K C) (s : ℕ) (u v k : K) (os : List (Sealed K C)) → NodeIn at t u os → Memᴰ (Key bt s v k) os → (ps : List (Sealed K C)) × NodeIn at t k ps
  below at bt bare s u v k os n m = absurd n
  below at bt (leaf j c) s u v k os n m = absurd (key_not_content bt at s 0 v j k c (Memᴰ.eq_of_singleton (rw n.1 at m)))
  below at bt (node j l r) s u v k os (inl n) m =
      in_joined (link (child at 0) 0 j l) (rw n.1 at m)
      (λ x. let o = top (child at 0) l k (link-top bt (child at 0) s 0 v j k l x) in (o.0, inr (inl o.1)))
      (λ x. let o = top (child at 1) r k (link-top bt (child at 1) s 1 v j k r x) in (o.0, inr (inr o.1)))
  below at bt (node j l r) s u v k os (inr (inl n)) m = let o = below (child at 0) bt l s u v k os n m in (o.0, inr (inl o.1))
  below at bt (node j l r) s u v k os (inr (inr n)) m = let o = below (child at 1) bt r s u v k os n m in (o.0, inr (inr o.1))

  content-held : (at bt : Node) (t : Tree K C) (s : ℕ) (u v : K) (c : C) (os : List (Sealed K C)) → NodeIn at t u os → Memᴰ (Content bt s v c) os → Holds t c
  content-held at bt bare s u v c os n m = absurd n
  content-held at bt (leaf j x) s u v c os n m = same-content bt at s 0 v j c x (Memᴰ.eq_of_singleton (rw n.1 at m))
  content-held at bt (node j l r) s u v c os (inl n) m =
      absurd (in_joined (link (child at 0) 0 j l) (rw n.1 at m) (link-content bt (child at 0) s 0 v j c l) (link-content bt (child at 1) s 1 v j c r))
  content-held at bt (node j l r) s u v c os (inr (inl n)) m = inl (content-held (child at 0) bt l s u v c os n m)
  content-held at bt (node j l r) s u v c os (inr (inr n)) m = inr (content-held (child at 1) bt r s u v c os n m)

  -- The chip's key of a tree is the zeros, or a node's.
  chip-top : (at : Node) (z k : K) (t : Tree K C) → chip_key z t ≡ k → (k ≡ z) ⊎ ((os : List (Sealed K C)) × NodeIn at t k os)
  chip-top at z k bare e = inl (sym e)
  chip-top at z k (leaf j c) e = inr (top at (leaf j c) k (ap Some e))
  chip-top at z k (node j l r) e = inr (top at (node j l r) k (ap Some e))

  -- FROM THE KEYS OF TREES under whose keys only what belongs there is written: nothing but what they hold.
  module _ (z : K) (ws : List (Sealed K C)) (no_zero : (w : Sealed K C) → Memᴰ w ws → under w ≡ z → ⊥) (rs : List (Tree K C)) (only : (r : Tree K C) → Memᴰ r rs → (at : Node) × Each at (Only ws) r) where
    abbrev Found : K → Type 0
    Found k = (k ≡ z) ⊎ ((r : Tree K C) × (i : Memᴰ r rs) × (os : List (Sealed K C)) × NodeIn (only r i).0 r k os)

    found : (k : K) → HasKey (map (chip_key z) rs) ws k → Found k
    found k (had_it m) = let o = Memᴰ.of_map (chip_key z) rs m in either (chip-top (only o.0 o.1).0 z k o.0 o.2) (λ e. inl e) (λ n. inr (o.0, o.1, n.0, n.1))
    found k (opened bt s u h m) = go (found u h)
      where
        go : Found u → Found k
        go (inl e) = absurd (no_zero (Key bt s u k) m e)
        go (inr (r, i, os, n)) = let o = below (only r i).0 bt r s u u k os n ((only r i).1 u os n (Key bt s u k) refl m) in inr (r, i, o.0, o.1)

    pub only-held : (c : C) → Opens (map (chip_key z) rs) ws c → (r : Tree K C) × Memᴰ r rs × Holds r c
    only-held c (by bt s u h m) = go (found u h)
      where
        go : Found u → (r : Tree K C) × Memᴰ r rs × Holds r c
        go (inl e) = absurd (no_zero (Content bt s u c) m e)
        go (inr (r, i, os, n)) = (r, i, content-held (only r i).0 bt r s u u c os n ((only r i).1 u os n (Content bt s u c) refl m))

  -- And all of it, where what belongs there is written.
  chip_of_lem : (z k : K) (t : Tree K C) → key_of t ≡ Some k → k ≡ chip_key z t
  chip_of_lem z k bare e = absurd (none_not_some k e)
  chip_of_lem z k (leaf j c) e = cc
  chip_of_lem z k (node j l r) e = cc

  pub held-opens : (at : Node) (z : K) (ws : List (Sealed K C)) (rs : List (Tree K C)) (r : Tree K C) → Memᴰ r rs → Each at (λ u os. Within os ws) r → (c : C) → Holds r c →
      Opens (map (chip_key z) rs) ws c
  held-opens at z ws rs r m written c h = opens (map (chip_key z) rs) ws at r written (λ k e. had_it (Memᴰ.cast (chip_of_lem z k r e) (Memᴰ.map (chip_key z) m))) c h
