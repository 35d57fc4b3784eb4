-- Changes one after another, from the empty store on, each with new keys.
use Rattle.std.specs.Prelude.{◌≡◌, ℕ, zero, suc, ◌^◌, ◌<◌, ◌⊎◌, List, [], ◌∷◌, ◌++◌, length, is_some, Some, Option, ◌≢◌}
use mathlib.Core.List.{Memᴰ}
use Rattle.forgetting.specs.Secret.{Node, Sealed, Key, Opens}
use Rattle.forgetting.specs.Tree.{Tree, bare, key_of, Holds, node_keys, place_in, content_of}
use Rattle.forgetting.specs.Change.{Edit, same, puts, takes, fork, edited, drawn, records, things, single, draws}
use Rattle.forgetting.specs.Lawful.{Apart, New}

-- Contents put in and taken out at the places only, d levels down.
abbrev pub AtPlaces : {K C : Type 0} → ℕ → Edit K C → Type 0
AtPlaces d same = Unit {0}
AtPlaces zero (puts k c) = Unit {0}
AtPlaces zero takes = Unit {0}
AtPlaces zero (fork k a b) = ⊥
AtPlaces (suc d) (puts k c) = ⊥
AtPlaces (suc d) takes = ⊥
AtPlaces (suc d) (fork k a b) = AtPlaces d a × AtPlaces d b

abbrev pub root : ℕ → Node
root d = record { level = d; index = 0 }

-- The tree, all keys drawn, and all that was written.
pub data History {K C : Type 0} (d : ℕ) : Tree K C → List K → List (Sealed K C) → Type 0 where
  begin : History d bare [] []
  change : {t : Tree K C} {ks : List K} {ws : List (Sealed K C)} (next : ℕ) (e : Edit K C) → History d t ks ws → AtPlaces d e → Apart (drawn e) → New ks (drawn e) →
      History d (edited e t) (drawn e ++ ks) (ws ++ things (records next (root d) e t))

-- A place's node has a key exactly while it holds something.
abbrev pub KeyWhileHeld : (K C : Type 0) → Type 0
KeyWhileHeld K C =
    (d : ℕ) (t : Tree K C) (ks : List K) (ws : List (Sealed K C)) → History d t ks ws → (p : ℕ) → is_some (key_of (place_in d p t)) ≡ is_some (content_of (place_in d p t))

-- No two nodes have the same key.
abbrev pub KeysApart : (K C : Type 0) → Type 0
KeysApart K C = (d : ℕ) (t : Tree K C) (ks : List K) (ws : List (Sealed K C)) → History d t ks ws → Apart (node_keys t)

-- A key is sealed only under keys drawn in the same change, and it was drawn then or before.
abbrev pub UnderLater : (K C : Type 0) → Type 0
UnderLater K C =
    (d : ℕ) (t : Tree K C) (ks : List K) (ws : List (Sealed K C)) → History d t ks ws → (next : ℕ) (e : Edit K C) →
    (at : Node) (s : ℕ) (u k : K) → Memᴰ (Key at s u k) (things (records next (root d) e t)) →
    Memᴰ u (drawn e) × (Memᴰ k (drawn e) ⊎ Memᴰ k ks)

-- Whoever has the root's key opens all that stands.
abbrev pub ReadsAll : (K C : Type 0) → Type 0
ReadsAll K C =
    (d : ℕ) (t : Tree K C) (ks : List K) (ws : List (Sealed K C)) → History d t ks ws → (u : K) → key_of t ≡ Some u → (c : C) → Holds t c → Opens (u ∷ []) ws c

-- The change of one place is at a place, and draws as many keys as it says.
abbrev pub SingleDraws : (K C : Type 0) → Type 0
SingleDraws K C =
    (w : Option C) (keys : ℕ → K) (d p : ℕ) → AtPlaces d (single w keys d p) × (length (drawn (single w keys d p)) ≡ draws w d)

-- After the change of a place p it holds what was put in, or nothing, and every other holds what it held.
abbrev pub SingleSets : (K C : Type 0) → Type 0
SingleSets K C =
    (w : Option C) (keys : ℕ → K) (d p : ℕ) (t : Tree K C) →
    (content_of (place_in d p (edited (single w keys d p) t)) ≡ w)
    × ((q : ℕ) → p < 2 ^ d → q < 2 ^ d → (q ≢ p) → content_of (place_in d q (edited (single w keys d p) t)) ≡ content_of (place_in d q t))
