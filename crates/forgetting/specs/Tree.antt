-- The tree of keys over the places.
use Rattle.std.specs.Prelude.{◌≡◌, ℕ, zero, suc, pred, ◌+◌, ◌*◌, ◌/◌, ◌%◌, ◌^◌, Bool, true, false, ◌⊎◌, List, [], ◌∷◌, ◌++◌, Some, None, Option, ◌==◌}
use Rattle.forgetting.specs.Secret.{Node, Sealed, Key}

-- bare: no key here, nor below. leaf: a place that holds a content, and its key. node: a node above the places, its key, and what hangs on it, the even node first.
pub data Tree (K C : Type 0) : Type 0 where
  bare : Tree K C
  leaf : (k : K) (c : C) → Tree K C
  node : (k : K) (l r : Tree K C) → Tree K C

-- The key of the node at the top, as far as it has one.
abbrev pub key_of : {K C : Type 0} → Tree K C → Option K
key_of bare = None
key_of (leaf k c) = Some k
key_of (node k l r) = Some k

abbrev pub even_of : {K C : Type 0} → Tree K C → Tree K C
even_of bare = bare
even_of (leaf k c) = bare
even_of (node k l r) = l

abbrev pub odd_of : {K C : Type 0} → Tree K C → Tree K C
odd_of bare = bare
odd_of (leaf k c) = bare
odd_of (node k l r) = r

-- The nodes that hang on one: slot 0 is the even one, 1 the odd one.
abbrev pub child : Node → ℕ → Node
child n s = record { level = pred n.level; index = 2 * n.index + s }

-- A node's key sealed under another, as far as it has one.
abbrev pub sealed_key : {K C : Type 0} → Node → (slot : ℕ) (u : K) → Option K → List (Sealed K C)
sealed_key at s u None = []
sealed_key at s u (Some k) = Key at s u k ∷ []

abbrev pub link : {K C : Type 0} → Node → (slot : ℕ) (u : K) → Tree K C → List (Sealed K C)
link at s u t = sealed_key at s u (key_of t)

-- Some place below holds a content.
abbrev pub Holds : {K C : Type 0} → Tree K C → C → Type 0
Holds bare c = ⊥
Holds (leaf k x) c = c ≡ x
Holds (node k l r) c = Holds l c ⊎ Holds r c

-- The keys of all nodes.
abbrev pub node_keys : {K C : Type 0} → Tree K C → List K
node_keys bare = []
node_keys (leaf k c) = k ∷ []
node_keys (node k l r) = k ∷ (node_keys l ++ node_keys r)

-- A tree of d levels: places at level 0, and nowhere else.
abbrev pub Levels : {K C : Type 0} → ℕ → Tree K C → Type 0
Levels d bare = Unit {0}
Levels zero (leaf k c) = Unit {0}
Levels (suc d) (leaf k c) = ⊥
Levels zero (node k l r) = ⊥
Levels (suc d) (node k l r) = Levels d l × Levels d r

-- Whether the path to place p turns to the even node, h levels above the places.
abbrev pub to_even : (h p : ℕ) → Bool
to_even h p = p / 2 ^ h % 2 == 0

abbrev pub turn : {A : Type 0} → Bool → A → A → A
turn true even odd = even
turn false even odd = odd

-- What hangs at place p in a tree of d levels.
abbrev pub place_in : {K C : Type 0} → (d p : ℕ) → Tree K C → Tree K C
place_in zero p t = t
place_in (suc d) p t = place_in d p (turn (to_even d p) (even_of t) (odd_of t))

-- What a place holds.
abbrev pub content_of : {K C : Type 0} → Tree K C → Option C
content_of bare = None
content_of (leaf k c) = Some c
content_of (node k l r) = None
