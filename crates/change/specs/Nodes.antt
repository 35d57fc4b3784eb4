-- What the code's nodes and keys stand for.
use Rattle.std.specs.Prelude.{◌≡◌, ℕ, zero, suc, ◌+◌, false, is_some, List, [], ◌++◌, map, length, take, Some, None, Ok, Err, Option, Result, slice_index_or}
use Rattle.forgetting.specs.Change.{Numbered}
use Rattle.std.specs.Borrow.{Bor}
use Rattle.sealing.specs.declared.key.Key.{Key}
use Rattle.change.specs.declared.node.NodeKey.{NodeKey}
use Rattle.change.specs.declared.keys.KeyRef.{KeyRef}

-- The key that a node has, as far as it has one.
abbrev pub key_in : Option NodeKey → Option Numbered
key_in None = None
key_in (Some held) = Some (record { number = held.number; bytes = held.key.bytes })

-- The key of the sibling on the path, h levels above the place.
abbrev pub sibling_in : List (Option NodeKey) → ℕ → Option Numbered
sibling_in nodes h = slice_index_or (map key_in nodes) h None

-- None of the nodes has a key.
abbrev pub Keyless : List (Option NodeKey) → Type 0
Keyless nodes = (h : ℕ) → is_some (sibling_in nodes h) ≡ false

-- The bytes of key j of a list.
abbrev pub bytes_in : List Key → ℕ → List ℕ
bytes_in keys j = slice_index_or (map (λ (k : Key). k.bytes) keys) j []

-- A key with its number.
abbrev pub numbered : KeyRef → Numbered
numbered k = record { number = k.number; bytes = k.key.now.bytes }

-- Key j of those that a change draws, which are counted on from the last number; and the one drawn before it, if any.
abbrev pub drawn_key : (last : ℕ) → List Key → ℕ → Numbered
drawn_key last keys j = record { number = last + 1 + j; bytes = bytes_in keys j }

abbrev pub drawn_before : (last : ℕ) → List Key → ℕ → Option Numbered
drawn_before last keys zero = None
drawn_before last keys (suc j) = Some (drawn_key last keys j)

-- What stood at the front still stands there.
abbrev pub Kept : (before after : List ℕ) → Type 0
Kept before after = take (length before) after ≡ before

-- What was to be written stands after what stood there; where there was no memory for it, what stood there still does, and some of the rest may follow.
abbrev pub Extends : {X E : Type 0} → Result X E → (before added after : List ℕ) → Type 0
Extends (Ok _) before added after = after ≡ before ++ added
Extends (Err _) before added after = Kept before after

-- The content that a change puts in, if any.
abbrev pub content_in : Option (Bor (List ℕ)) → Option (List ℕ)
content_in None = None
content_in (Some content) = Some content.now

-- The index of the key that the node above the place gets: a put draws one for the place's node first.
abbrev pub first_of : Option (List ℕ) → ℕ
first_of None = 0
first_of (Some c) = 1
