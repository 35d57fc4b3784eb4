-- What the turns of the loop write, by node numbers and the keys in their order.
use Rattle.std.specs.Prelude.{ℕ, zero, suc, ◌+◌, ◌/◌, ◌%◌, ◌^◌, List, [], ◌++◌, Some, None, Option}
use Rattle.records.specs.Format.{encode, out}
use Rattle.forgetting.specs.Change.{Numbered}
use Rattle.sealing.specs.declared.key.Key.{Key}
use Rattle.tree.specs.Nodes.{sibling_of}
use Rattle.change.specs.declared.node.NodeKey.{NodeKey}
use Rattle.change.specs.Coded.{Cipher, coded_content, key_bytes}
use Rattle.change.specs.Nodes.{sibling_in, drawn_key, drawn_before}

-- The record of the place itself: its content under the first key; or that it was taken out, with the number of the next key.
abbrev pub place_bytes : Cipher → (node last : ℕ) (keys : List Key) → Option (List ℕ) → List ℕ
place_bytes sealed node last keys None = encode (out node (last + 1))
place_bytes sealed node last keys (Some content) = encode (coded_content sealed node 0 (drawn_key last keys 0) content)

-- Under key j: the key drawn before it, which is that of the node on the path, and the key of that node's sibling.
abbrev pub turn_bytes : Cipher → (node last : ℕ) (keys : List Key) (j : ℕ) (siblings : Option Numbered) → List ℕ
turn_bytes sealed node last keys j siblings =
    key_bytes sealed node (node % 2) (drawn_key last keys j) (drawn_before last keys j)
    ++ key_bytes sealed (sibling_of node) (sibling_of node % 2) (drawn_key last keys j) siblings

-- The first h turns from a node up; first: the index of the key that the node above it gets.
unfoldable pub turns_bytes : Cipher → (start first last : ℕ) (keys : List Key) (siblings : List (Option NodeKey)) (h : ℕ) → List ℕ
turns_bytes sealed start first last keys siblings zero = []
turns_bytes sealed start first last keys siblings (suc h) =
    turns_bytes sealed start first last keys siblings h ++ turn_bytes sealed (start / 2 ^ h) last keys (h + first) (sibling_in siblings h)
