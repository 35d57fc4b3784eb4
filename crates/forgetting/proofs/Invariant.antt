-- What holds at every moment of a history, and what follows.
use Rattle.std.proofs.Common.{◌≡◌, ℕ, zero, suc, List, [], ◌∷◌, Some, refl, ap, inl, inr}
use mathlib.Core.List.Memᴰ
use mathlib.Core.List.{Memᴰ}
use Rattle.forgetting.specs.Secret.{Node, Sealed, Key, Content, HasKey, had_it, opened, Opens, by}
use Rattle.forgetting.specs.Tree.{Tree, bare, leaf, node, key_of, even_of, odd_of, child, link, Holds, node_keys, Levels}
use Rattle.forgetting.specs.Change.{Edit, same, puts, takes, fork, edited, drawn, records, things}
use Rattle.forgetting.specs.Lawful.{Apart, NodeIn}
use Rattle.forgetting.specs.History.{AtPlaces, root, History, begin, change, KeysApart, UnderLater, ReadsAll}
use Rattle.forgetting.proofs.Members.{Within, either, in_none}
use Rattle.forgetting.proofs.Changes.{records-under, lawful}
use Rattle.forgetting.proofs.Keys.{edited-keys, edited-apart, sealed_key_lem}

module _ {K C : Type 0} where
  -- LEVELS: the sides of a tree have one less, and a change at the places leaves as many.
  pub even_levels : (d : ℕ) (t : Tree K C) → Levels (suc d) t → Levels d (even_of t)
  even_levels d bare l = tt
  even_levels d (leaf k c) l = absurd l
  even_levels d (node k x y) l = l.0

  pub odd_levels : (d : ℕ) (t : Tree K C) → Levels (suc d) t → Levels d (odd_of t)
  odd_levels d bare l = tt
  odd_levels d (leaf k c) l = absurd l
  odd_levels d (node k x y) l = l.1

  pub edited_levels : (d : ℕ) (e : Edit K C) (t : Tree K C) → AtPlaces d e → Levels d t → Levels d (edited e t)
  edited_levels d same t p l = l
  edited_levels zero (puts k c) t p l = tt
  edited_levels (suc d) (puts k c) t p l = absurd p
  edited_levels d takes t p l = tt
  edited_levels zero (fork k a b) t p l = absurd p
  edited_levels (suc d) (fork k a b) t p l = (edited_levels d a (even_of t) p.0 (even_levels d t l), edited_levels d b (odd_of t) p.1 (odd_levels d t l))

  -- AT EVERY MOMENT the tree has its levels, its keys are drawn and apart, and what belongs under each is written.
  pub record Sound (d : ℕ) (t : Tree K C) (ks : List K) (ws : List (Sealed K C)) : Type 0 where
    pub levels : Levels d t
    pub from_drawn : Within (node_keys t) ks
    pub apart : Apart (node_keys t)
    pub written : (u : K) (os : List (Sealed K C)) → NodeIn (root d) t u os → Within os ws

  pub sound : {d : ℕ} {t : Tree K C} {ks : List K} {ws : List (Sealed K C)} → History d t ks ws → Sound d t ks ws
  sound begin = record { levels = tt; from_drawn = λ k m. in_none m; apart = tt; written = λ u os n. absurd n }
  sound {d} (change {t} {ks} {ws} next e h places apart new) =
      let s = sound h in
      record {
        levels = edited_levels d e t places s.levels;
        from_drawn = λ k m. either (edited-keys e t k m) (λ x. Memᴰ.append_left ks x) (λ x. Memᴰ.append_right (drawn e) (s.from_drawn k x));
        apart = edited-apart e t apart (λ k m n. new k m (s.from_drawn k n)) s.apart;
        written = λ u os n w m.
            either ((lawful next (root d) e t apart).nodes u os n) (λ x. Memᴰ.append_left (things (records next (root d) e t)) (s.written u os x w m)) (λ x. Memᴰ.append_right ws (x.all w m));
      }

  -- DOWN THE TREE: whoever has the key at its top, where there is one, opens all that it holds.
  link_has : (at : Node) (s : ℕ) (u k : K) (t : Tree K C) → key_of t ≡ Some k → Memᴰ (Key at s u k) (link at s u t)
  link_has at s u k t e = rw e (Memᴰ.head refl)

  pub opens : (had : List K) (ws : List (Sealed K C)) (at : Node) (t : Tree K C) → ((u : K) (os : List (Sealed K C)) → NodeIn at t u os → Within os ws) →
      ((k : K) → key_of t ≡ Some k → HasKey had ws k) → (c : C) → Holds t c → Opens had ws c
  opens had ws at bare written has c h = absurd h
  opens had ws at (leaf k x) written has c h =
      by at 0 k (has k refl) (written k (Content at 0 k x ∷ []) (refl, refl) (Content at 0 k c) (Memᴰ.head (ap (λ y. Content at 0 k y) h)))
  opens had ws at (node k l r) written has c (inl h) =
      opens had ws (child at 0) l (λ u os n. written u os (inr (inl n)))
      (λ j e. opened (child at 0) 0 k (has k refl) (written k _ (inl (refl, refl)) (Key (child at 0) 0 k j) (Memᴰ.append_left (link (child at 1) 1 k r) (link_has (child at 0) 0 k j l e)))) c h
  opens had ws at (node k l r) written has c (inr h) =
      opens had ws (child at 1) r (λ u os n. written u os (inr (inr n)))
      (λ j e. opened (child at 1) 1 k (has k refl) (written k _ (inl (refl, refl)) (Key (child at 1) 1 k j) (Memᴰ.append_right (link (child at 0) 0 k l) (link_has (child at 1) 1 k j r e)))) c h

  -- The key at the top is one.
  same_some : (t : Tree K C) (k u : K) → key_of t ≡ Some u → key_of t ≡ Some k → k ≡ u
  same_some t k u e f = cc

pub keys-apart : (K C : Type 0) → KeysApart K C
keys-apart K C d t ks ws h = (sound h).apart

pub under_later : (K C : Type 0) → UnderLater K C
under_later K C d t ks ws h next e at s u k m = (
  records-under next (root d) e t (Key at s u k) m,
  either (edited-keys e t k (sealed_key_lem next (root d) e t at s u k m)) (λ x. inl x) (λ x. inr ((sound h).from_drawn k x)),
)

pub reads_all : (K C : Type 0) → ReadsAll K C
reads_all K C d t ks ws h u e c held = opens (u ∷ []) ws (root d) t (sound h).written (λ k f. had_it (Memᴰ.head (same_some t k u e f))) c held
