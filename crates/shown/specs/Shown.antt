-- WHAT A MEDIUM SHOWS: a string of bytes and the rows of its index stand for a tree of keys and contents.
-- The node with number 2 ^ g + i, where i < 2 ^ g, has g levels above it; what hangs there in a tree t is place_in g i t, and the node above it is 2 ^ (g - 1) + i / 2. The root's key is on no medium.
use Rattle.std.specs.Prelude.{◌≡◌, ℕ, suc, ◌+◌, ◌/◌, ◌%◌, ◌^◌, ◌<◌, ◌≤◌, List, ◌++◌, map, length, take, drop, Some, None, Option}
use mathlib.Core.List.{Memᴰ}
use Rattle.cipher.specs.Sealed.{slot_nonce}
use Rattle.records.specs.Format.{head, key_tag, content_tag, longest_content}
use Rattle.forgetting.specs.Tree.{Tree, bare, leaf, node, key_of, Holds, node_keys, Levels, place_in}
use Rattle.forgetting.specs.Change.{Record, Numbered}
use Rattle.change.specs.Coded.{Cipher, coded, bytes_of}
use Rattle.index.specs.declared.row.KeyRow.{KeyRow}
use Rattle.index.specs.declared.row.ContentRow.{ContentRow}
use Rattle.index.specs.Rows.{key_row, content_row}
use Rattle.index.specs.Noted.{Rows, note_all, AllProper}

-- From the byte `offset` on stands the key k of a node, sealed under the key u of the node above it.
pub record KeySealed (sealed : Cipher) (bytes : List ℕ) (at number under offset : ℕ) (u k : Numbered) : Type 0 where
  pub number_is : number ≡ k.number
  pub under-is : under ≡ u.number
  pub text : take 48 (drop offset bytes) ≡ sealed u.bytes (slot_nonce (at % 2)) (head key_tag at number) k.bytes

-- What the row of a node says of its key, and the key of the node above: there is none; or it is sealed under that one.
abbrev pub KeyShown : Cipher → (bytes : List ℕ) (at : ℕ) → Option KeyRow → (above key : Option Numbered) → Type 0
KeyShown sealed bytes at None above None = Unit {0}
KeyShown sealed bytes at None above (Some k) = ⊥
KeyShown sealed bytes at (Some row) above None = ⊥
KeyShown sealed bytes at (Some row) None (Some k) = ⊥
KeyShown sealed bytes at (Some row) (Some u) (Some k) = KeySealed sealed bytes at row.number row.under row.offset u k

-- From the byte `offset` on stands the content c of a place, sealed under the key k of its node.
pub record ContentSealed (sealed : Cipher) (bytes : List ℕ) (at number long offset : ℕ) (k : Numbered) (c : List ℕ) : Type 0 where
  pub number_is : number ≡ k.number
  pub length-is : long ≡ length c
  pub text : take (length c + 16) (drop offset bytes) ≡ sealed k.bytes (slot_nonce 0) (head content_tag at number) c

-- What the row of a place says of what hangs there: nothing; or a content under a key.
abbrev pub ContentShown : Cipher → (bytes : List ℕ) (at : ℕ) → Option ContentRow → Tree Numbered (List ℕ) → Type 0
ContentShown sealed bytes at None bare = Unit {0}
ContentShown sealed bytes at None (leaf k c) = ⊥
ContentShown sealed bytes at None (node k l r) = ⊥
ContentShown sealed bytes at (Some row) bare = ⊥
ContentShown sealed bytes at (Some row) (leaf k c) = ContentSealed sealed bytes at row.number row.length row.offset k c
ContentShown sealed bytes at (Some row) (node k l r) = ⊥

-- The medium shows a tree of so many levels: every node below the root, and every place.
pub record Shows (sealed : Cipher) (levels : ℕ) (bytes : List ℕ) (rows : Rows) (t : Tree Numbered (List ℕ)) : Type 0 where
  pub deep : Levels levels t
  pub nodes : length rows.keys ≡ 2 ^ (levels + 1)
  pub places : length rows.contents ≡ 2 ^ levels
  pub keys : (g i : ℕ) → g < levels → i < 2 ^ suc g →
      KeyShown sealed bytes (2 ^ suc g + i) (key_row rows.keys (2 ^ suc g + i)) (key_of (place_in g (i / 2) t)) (key_of (place_in (suc g) i t))
  pub contents : (p : ℕ) → p < 2 ^ levels → ContentShown sealed bytes (2 ^ levels + p) (content_row rows.contents p) (place_in levels p t)

-- Every key has 32 bytes and a number from 1 to the last that was given, and every content has 1 to 4,096 bytes.
pub record Counts (last : ℕ) (t : Tree Numbered (List ℕ)) : Type 0 where
  pub keys : (k : Numbered) → Memᴰ k (node_keys t) → (length k.bytes ≡ 32) × (1 ≤ k.number) × (k.number ≤ last)
  pub contents : (c : List ℕ) → Holds t c → (1 ≤ length c) × (length c ≤ longest_content)

-- The marks of a cipher have 16 bytes.
abbrev pub Marks16 : Cipher → Type 0
Marks16 sealed = (key nonce marked text : List ℕ) → length key ≡ 32 → length (sealed key nonce marked text) ≡ length text + 16

-- After records were added to the bytes and noted: the medium shows a tree, whose keys are counted, and each record is proper.
pub record Keeps (sealed : Cipher) (levels : ℕ) (bytes : List ℕ) (rows : Rows) (rs : List (Record Numbered (List ℕ))) (t : Tree Numbered (List ℕ)) (last : ℕ) : Type 0 where
  pub shows : Shows sealed levels (bytes ++ bytes_of sealed levels rs) (note_all levels (length bytes) (map (coded sealed levels) rs) rows) t
  pub counts : Counts last t
  pub proper : AllProper levels (map (coded sealed levels) rs)
