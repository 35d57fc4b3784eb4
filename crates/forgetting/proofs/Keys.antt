-- The keys of a tree after a change, and the keys that the change seals.
use Rattle.std.proofs.Common.{◌≡◌, ℕ, ◌⊎◌, [], ◌++◌, refl, inl, inr, arith}
use mathlib.Core.List.Memᴰ
use mathlib.Core.List.{Memᴰ}
use Rattle.forgetting.specs.Secret.{Node, Sealed, Key, Content}
use Rattle.forgetting.specs.Tree.{Tree, bare, leaf, node, even_of, odd_of, child, link, node_keys}
use Rattle.forgetting.specs.Change.{Edit, same, puts, takes, fork, edited, drawn, records, things}
use Rattle.forgetting.specs.Lawful.{Apart, New}
use Rattle.forgetting.proofs.Members.{Within, either, in_none, in_cons, in_joined, Split, split, apart-joined}
use Rattle.forgetting.proofs.Changes.{links, in_fork}

module _ {K C : Type 0} where
  -- The sides' keys are the tree's, and the two sides have none in common.
  pub even_keys : (t : Tree K C) → Within (node_keys (even_of t)) (node_keys t)
  even_keys bare x m = m
  even_keys (leaf k c) x m = in_none m
  even_keys (node k l r) x m = Memᴰ.tail (Memᴰ.append_left (node_keys r) m)

  pub odd_keys : (t : Tree K C) → Within (node_keys (odd_of t)) (node_keys t)
  odd_keys bare x m = m
  odd_keys (leaf k c) x m = in_none m
  odd_keys (node k l r) x m = Memᴰ.tail (Memᴰ.append_right (node_keys l) m)

  sides_split : (t : Tree K C) → Apart (node_keys t) → Split (node_keys (even_of t)) (node_keys (odd_of t))
  sides_split bare a = split [] [] tt
  sides_split (leaf k c) a = split [] [] tt
  sides_split (node k l r) a = split (node_keys l) (node_keys r) a.1

  -- After a change a node's key is one that the change drew, or one of before.
  pub edited-keys : (e : Edit K C) (t : Tree K C) (x : K) → Memᴰ x (node_keys (edited e t)) → Memᴰ x (drawn e) ⊎ Memᴰ x (node_keys t)
  edited-keys same t x m = inr m
  edited-keys (puts k c) t x m = inl m
  edited-keys takes t x m = in_none m
  edited-keys (fork k a b) t x m =
      in_cons m (λ e. inl (Memᴰ.head e)) (λ n.
      in_joined (node_keys (edited a (even_of t))) n
      (λ o. either (edited-keys a (even_of t) x o) (λ i. inl (Memᴰ.tail (Memᴰ.append_left (drawn b) i))) (λ i. inr (even_keys t x i)))
      (λ o. either (edited-keys b (odd_of t) x o) (λ i. inl (Memᴰ.tail (Memᴰ.append_right (drawn a) i))) (λ i. inr (odd_keys t x i))))

  -- A change with new keys that are apart leaves the nodes' keys apart.
  pub edited-apart : (e : Edit K C) (t : Tree K C) → Apart (drawn e) → New (node_keys t) (drawn e) → Apart (node_keys t) → Apart (node_keys (edited e t))
  edited-apart same t a n p = p
  edited-apart (puts k c) t a n p = a
  edited-apart takes t a n p = tt
  edited-apart (fork k x y) t a n p = (
    own_new,
    apart-joined (node_keys (edited x (even_of t))) (node_keys (edited y (odd_of t)))
        (record {
          first = edited-apart x (even_of t) ds.first (λ j i o. new_even j i (even_keys t j o)) ks.first;
          second = edited-apart y (odd_of t) ds.second (λ j i o. new_odd j i (odd_keys t j o)) ks.second;
          between = λ j m o. sides_apart j (edited-keys x (even_of t) j o) (edited-keys y (odd_of t) j m);
        }),
  )
    where
      ds : Split (drawn x) (drawn y)
      ds = split (drawn x) (drawn y) a.1

      ks : Split (node_keys (even_of t)) (node_keys (odd_of t))
      ks = sides_split t p

      new_even : New (node_keys t) (drawn x)
      new_even j i o = n j (Memᴰ.tail (Memᴰ.append_left (drawn y) i)) o

      new_odd : New (node_keys t) (drawn y)
      new_odd j i o = n j (Memᴰ.tail (Memᴰ.append_right (drawn x) i)) o

      own_new : Memᴰ k (node_keys (edited x (even_of t)) ++ node_keys (edited y (odd_of t))) → ⊥
      own_new m =
          in_joined (node_keys (edited x (even_of t))) m
          (λ o. either (edited-keys x (even_of t) k o) (λ i. a.0 (Memᴰ.append_left (drawn y) i)) (λ i. n k (Memᴰ.head refl) (even_keys t k i)))
          (λ o. either (edited-keys y (odd_of t) k o) (λ i. a.0 (Memᴰ.append_right (drawn x) i)) (λ i. n k (Memᴰ.head refl) (odd_keys t k i)))

      sides_apart : (j : K) → Memᴰ j (drawn x) ⊎ Memᴰ j (node_keys (even_of t)) → Memᴰ j (drawn y) ⊎ Memᴰ j (node_keys (odd_of t)) → ⊥
      sides_apart j (inl i) (inl o) = ds.between j o i
      sides_apart j (inl i) (inr o) = new_even j i (odd_keys t j o)
      sides_apart j (inr i) (inl o) = new_odd j o (even_keys t j i)
      sides_apart j (inr i) (inr o) = ks.between j o i

  -- A sealed key is no sealed content, and seals just one key.
  pub key_not_content : (at bt : Node) (s z : ℕ) (u v k : K) (c : C) → ◌≡◌ {A = Sealed K C} (Key at s u k) (Content bt z v c) → ⊥
  key_not_content at bt s z u v k c e = let f : ◌≡◌ {A = ℕ} 0 1 = cc in omega arith

  pub same_key : (at bt : Node) (s z : ℕ) (u v j k : K) → ◌≡◌ {A = Sealed K C} (Key at s u j) (Key bt z v k) → j ≡ k
  same_key at bt s z u v j k e = cc

  -- A link seals a key of the tree below it.
  link-key : (at bt : Node) (s z : ℕ) (u v k : K) (t : Tree K C) → Memᴰ (Key at s u k) (link bt z v t) → Memᴰ k (node_keys t)
  link-key at bt s z u v k bare m = in_none m
  link-key at bt s z u v k (leaf j c) m = Memᴰ.head (same_key at bt s z u v k j (Memᴰ.eq_of_singleton m))
  link-key at bt s z u v k (node j l r) m = Memᴰ.head (same_key at bt s z u v k j (Memᴰ.eq_of_singleton m))

  links_key : (at bt : Node) (s : ℕ) (u v k : K) (l r : Tree K C) → Memᴰ (Key at s u k) (links bt v l r) → Memᴰ k (node_keys l ++ node_keys r)
  links_key at bt s u v k l r m =
      in_joined (link (child bt 0) 0 v l) m (λ x. Memᴰ.append_left (node_keys r) (link-key at (child bt 0) s 0 u v k l x)) (λ x. Memᴰ.append_right (node_keys l) (link-key at (child bt 1) s 1 u v k r x))

  -- A change seals only keys of the tree that it leaves.
  pub sealed_key_lem : (next : ℕ) (at : Node) (e : Edit K C) (t : Tree K C) (bt : Node) (s : ℕ) (u k : K) → Memᴰ (Key bt s u k) (things (records next at e t)) →
      Memᴰ k (node_keys (edited e t))
  sealed_key_lem next at same t bt s u k m = in_none m
  sealed_key_lem next at (puts j c) t bt s u k m = absurd (key_not_content bt at s 0 u j k c (Memᴰ.eq_of_singleton m))
  sealed_key_lem next at takes t bt s u k m = in_none m
  sealed_key_lem next at (fork j a b) t bt s u k m =
      let l = edited a (even_of t) in
      let r = edited b (odd_of t) in
      in_fork next at j a b t m (λ x. Memᴰ.tail (Memᴰ.append_left (node_keys r) (sealed_key_lem next (child at 0) a (even_of t) bt s u k x)))
      (λ x. Memᴰ.tail (Memᴰ.append_right (node_keys l) (sealed_key_lem next (child at 1) b (odd_of t) bt s u k x))) (λ x. Memᴰ.tail (links_key bt at s u j k l r x))
