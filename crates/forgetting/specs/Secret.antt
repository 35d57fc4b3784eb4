-- What is sealed under which key, and what somebody can open who has some keys and all that was ever written. Keys and contents are values of any types.
use Rattle.std.specs.Prelude.{ℕ, List}
use mathlib.Core.List.{Memᴰ}

-- A node, by how many levels are below it and its index among those that have as many: at level 0 are the places, and nodes 2 i and 2 i + 1 of a level hang on node i of the next. These names stay as they are when a tree grows.
pub record Node : Type 0 where
  pub level : ℕ
  pub index : ℕ

-- A node's key, or a place's content, sealed under the key u. slot: the last byte of the nonce.
pub data Sealed (K C : Type 0) : Type 0 where
  Key : (at : Node) (slot : ℕ) (u k : K) → Sealed K C
  Content : (at : Node) (slot : ℕ) (u : K) (c : C) → Sealed K C

abbrev pub under : {K C : Type 0} → Sealed K C → K
under (Key at s u k) = u
under (Content at s u c) = u

abbrev pub slot : {K C : Type 0} → Sealed K C → ℕ
slot (Key at s u k) = s
slot (Content at s u c) = s

-- Whoever has some keys has all that those open, and so on.
pub data HasKey {K C : Type 0} (had : List K) (all : List (Sealed K C)) : K → Type 0 where
  had_it : {k : K} → Memᴰ k had → HasKey had all k
  opened : {k : K} (at : Node) (s : ℕ) (u : K) → HasKey had all u → Memᴰ (Key at s u k) all → HasKey had all k

pub data Opens {K C : Type 0} (had : List K) (all : List (Sealed K C)) : C → Type 0 where
  by : {c : C} (at : Node) (s : ℕ) (u : K) → HasKey had all u → Memᴰ (Content at s u c) all → Opens had all c
