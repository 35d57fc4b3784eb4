-- THE LAW between a change and any run of changes: all that a change writes is sealed under keys that it draws; under one key and one nonce just one thing; and each node of the tree that it makes was there before, or has a new key under which just what belongs there is written.
use Rattle.std.specs.Prelude.{◌≡◌, ℕ, ◌⊎◌, List, [], ◌∷◌, ◌++◌}
use mathlib.Core.List.{Memᴰ}
use Rattle.forgetting.specs.Secret.{Node, Sealed, Content, under, slot}
use Rattle.forgetting.specs.Tree.{Tree, bare, leaf, node, child, link}
use Rattle.forgetting.specs.Change.{Edit, edited, drawn, records, things}

-- No two are the same.
abbrev pub Apart : {A : Type 0} → List A → Type 0
Apart [] = Unit {0}
Apart (x ∷ xs) = (Memᴰ x xs → ⊥) × Apart xs

abbrev pub New : {A : Type 0} → (before new : List A) → Type 0
New {A} before new = (k : A) → Memᴰ k new → Memᴰ k before → ⊥

-- A node of the tree has the key u, and just os belongs under it.
abbrev pub NodeIn : {K C : Type 0} → Node → Tree K C → K → List (Sealed K C) → Type 0
NodeIn at bare u os = ⊥
NodeIn at (leaf k c) u os = (u ≡ k) × (os ≡ Content at 0 k c ∷ [])
NodeIn at (node k l r) u os =
    ((u ≡ k) × (os ≡ link (child at 0) 0 k l ++ link (child at 1) 1 k r)) ⊎ (NodeIn (child at 0) l u os ⊎ NodeIn (child at 1) r u os)

pub record NewNode {K C : Type 0} (keys : List K) (written : List (Sealed K C)) (u : K) (os : List (Sealed K C)) : Type 0 where
  pub is-drawn : Memᴰ u keys
  pub only : (w : Sealed K C) → under w ≡ u → Memᴰ w written → Memᴰ w os
  pub all : (w : Sealed K C) → Memᴰ w os → Memᴰ w written

pub record Lawful {K C : Type 0} (at : Node) (before : Tree K C) (keys : List K) (written : List (Sealed K C)) (after : Tree K C) : Type 0 where
  pub under-new : (w : Sealed K C) → Memᴰ w written → Memᴰ (under w) keys
  pub once : (v w : Sealed K C) → Memᴰ v written → Memᴰ w written → under v ≡ under w → slot v ≡ slot w → v ≡ w
  pub nodes : (u : K) (os : List (Sealed K C)) → NodeIn at after u os → NodeIn at before u os ⊎ NewNode keys written u os

-- Every change whose keys are apart is lawful.
abbrev pub ChangeLawful : (K C : Type 0) → Type 0
ChangeLawful K C =
    (next : ℕ) (at : Node) (e : Edit K C) (t : Tree K C) → Apart (drawn e) → Lawful at t (drawn e) (things (records next at e t)) (edited e t)
