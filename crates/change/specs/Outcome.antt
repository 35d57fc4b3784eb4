-- What writing a change comes to.
use Rattle.std.specs.Prelude.{◌≡◌, ℕ, ◌+◌, ◌^◌, ◌<◌, ◌≤◌, Bool, true, false, cond, List, ◌++◌, length, replicate, Some, None, Ok, Err, Option, Result, IfSome, ◌==◌, nat_le, nat_lt}
use Rattle.records.specs.Format.{highest, longest_content}
use Rattle.sealing.specs.declared.key.Key.{Key}
use Rattle.tree.specs.declared.node.NodeId.{NodeId}
use Rattle.tree.specs.declared.answer.Refusal.{Refusal}
use Rattle.tree.specs.declared.answer.Refusal.TheVariants.{NoSuchPlace, FewKeys, NumbersSpent}
use Rattle.forgetting.specs.Tree.{Tree}
use Rattle.forgetting.specs.Change.{records, single, draws, counted, Numbered}
use Rattle.forgetting.specs.Climb.{sibling_key}
use Rattle.forgetting.specs.History.{root}
use Rattle.change.specs.declared.node.NodeKey.{NodeKey}
use Rattle.change.specs.declared.failure.Failure.{Failure}
use Rattle.change.specs.declared.failure.Failure.TheVariants.{Refused, Memory}
use Rattle.change.specs.Coded.{Cipher, bytes_of}
use Rattle.change.specs.Nodes.{sibling_in, bytes_in}

-- A content that a place can hold; taking out asks for none.
abbrev pub is_content : Option (List ℕ) → Bool
is_content None = true
is_content (Some c) = cond (length c == 0) false (nat_le (length c) longest_content)

-- Why the change of a place is refused, the lowest number first: no such place, or no content that a place can hold; fewer keys than it draws; a number past the highest.
abbrev pub refusal : (levels place : ℕ) → Option (List ℕ) → (given last : ℕ) → Option Refusal
refusal levels place w given last =
    cond (nat_le levels 20)
    (cond (nat_lt place (2 ^ levels))
    (cond (is_content w)
    (cond (nat_le (draws w levels) given) (cond (nat_le (last + draws w levels) highest) None (Some NumbersSpent)) (Some FewKeys))
    (Some NoSuchPlace))
    (Some NoSuchPlace))
    (Some NoSuchPlace)

-- Not refused, and what follows for the code; or refused.
abbrev pub Checked : (levels place : ℕ) → Option (List ℕ) → (given last : ℕ) → Result NodeId Refusal → Type 0
Checked levels place w given last (Ok node) =
    (refusal levels place w given last ≡ None) × (node.number ≡ 2 ^ levels + place) × (place < 2 ^ levels) × (draws w levels ≤ given) × (last + draws w levels ≤ highest) × IfSome w (λ c. length c ≤ longest_content)
Checked levels place w given last (Err f) = refusal levels place w given last ≡ Some f

-- The nodes are the siblings along the path to a place in a tree.
abbrev pub Siblings : (levels place : ℕ) → Tree Numbered (List ℕ) → List (Option NodeKey) → Type 0
Siblings levels place t nodes = (h : ℕ) → h < levels → sibling_in nodes h ≡ sibling_key levels place h t

-- Answered, with the number of the root's new key: the bytes of the change's records follow what was there, whatever tree it is of which these are the siblings along the path. Refused, or out of memory: nothing was written.
abbrev pub Writes : Cipher → (levels place : ℕ) → Option (List ℕ) → (keys : List Key) (last : ℕ) (nodes : List (Option NodeKey)) (before : List ℕ) → Result ℕ Failure → (after : List ℕ) → Type 0
Writes sealed levels place w keys last nodes before (Ok number) after =
    (refusal levels place w (length keys) last ≡ None) × (number ≡ last + draws w levels)
    × ((t : Tree Numbered (List ℕ)) → Siblings levels place t nodes → after ≡ before ++ bytes_of sealed levels (records (last + 1) (root levels) (single w (counted w last (bytes_in keys)) levels place) t))
    × (draws w levels ≤ length keys)
Writes sealed levels place w keys last nodes before (Err (Refused f)) after = (refusal levels place w (length keys) last ≡ Some f) × (after ≡ before)
Writes sealed levels place w keys last nodes before (Err Memory) after = after ≡ before

-- What a change leaves of the keys that were handed in. Answered: key i, the root's new one, is moved to root, and every key handed in is zeros. Else nothing has changed.
abbrev pub Leaves : (i : ℕ) (keys : List Key) (root : Key) → Result ℕ Failure → (keys-after : List Key) (root-after : Key) → Type 0
Leaves i keys root (Ok number) keys-after root-after =
    (root-after.bytes ≡ bytes_in keys i) × ((j : ℕ) → j < length keys → bytes_in keys-after j ≡ replicate 32 0)
Leaves i keys root (Err why) keys-after root-after = (keys-after ≡ keys) × (root-after ≡ root)
