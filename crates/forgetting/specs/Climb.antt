-- The change of one place as a loop makes it: from the place up, one level at a turn, with the keys of the siblings along the path.
use Rattle.std.specs.Prelude.{◌≡◌, ℕ, zero, suc, ◌+◌, ◌-◌, ◌/◌, ◌^◌, cond, List, [], ◌∷◌, ◌++◌, Some, None, Option, ◌==◌}
use Rattle.forgetting.specs.Secret.{Node, Content}
use Rattle.forgetting.specs.Tree.{Tree, key_of, even_of, odd_of, sealed_key, to_even, turn}
use Rattle.forgetting.specs.Change.{Record, sealing, taking, sealings, records, single}

-- The node h levels above place p, and its sibling; and their slots.
abbrev pub path_node : (p h : ℕ) → Node
path_node p h = record { level = h; index = p / 2 ^ h }

abbrev pub sibling_node : (p h : ℕ) → Node
sibling_node p h = record { level = h; index = turn (to_even h p) (p / 2 ^ h + 1) (p / 2 ^ h - 1) }

abbrev pub path_slot : (p h : ℕ) → ℕ
path_slot p h = turn (to_even h p) 0 1

abbrev pub sibling_slot : (p h : ℕ) → ℕ
sibling_slot p h = turn (to_even h p) 1 0

-- The key that the sibling on the path has, h levels above place p, in a tree of d levels.
abbrev pub sibling_key : {K C : Type 0} → (d p h : ℕ) → Tree K C → Option K
sibling_key zero p h t = None
sibling_key (suc d) p h t =
    cond (h == d) (key_of (turn (to_even d p) (odd_of t) (even_of t))) (sibling_key d p h (turn (to_even d p) (even_of t) (odd_of t)))

-- The key that the node on the path has after the change.
abbrev pub path_key : {K C : Type 0} → Option C → (keys : ℕ → K) → ℕ → Option K
path_key None keys zero = None
path_key (Some c) keys zero = Some (keys 0)
path_key w keys (suc h) = Some (keys (suc h))

-- What is written first, of the place itself.
abbrev pub first_record : {K C : Type 0} → (next p : ℕ) → Option C → (keys : ℕ → K) → Record K C
first_record next p None keys = taking (path_node p 0) next
first_record next p (Some c) keys = sealing (Content (path_node p 0) 0 (keys 0) c)

-- What one turn writes: under the new key of the node above, the key of the node on the path and then that of its sibling, as far as they have any.
abbrev pub turn_records : {K C : Type 0} → (p : ℕ) → Option C → (keys : ℕ → K) → (siblings : Option K) → (h : ℕ) → List (Record K C)
turn_records p w keys siblings h =
    sealings (sealed_key (path_node p h) (path_slot p h) (keys (suc h)) (path_key w keys h) ++ sealed_key (sibling_node p h) (sibling_slot p h) (keys (suc h)) siblings)

-- What the first h turns have written.
unfoldable pub climbed : {K C : Type 0} → (next p : ℕ) → Option C → (keys : ℕ → K) → (siblings : ℕ → Option K) → (h : ℕ) → List (Record K C)
climbed next p w keys siblings zero = first_record next p w keys ∷ []
climbed next p w keys siblings (suc h) = climbed next p w keys siblings h ++ turn_records p w keys (siblings h) h

-- The loop writes the records of the change.
abbrev pub Climbs : (K C : Type 0) → Type 0
Climbs K C =
    (next : ℕ) (w : Option C) (keys : ℕ → K) (d p : ℕ) (t : Tree K C) →
    records next (path_node p d) (single w keys d p) t ≡ climbed next p w keys (λ h. sibling_key d p h t) d
