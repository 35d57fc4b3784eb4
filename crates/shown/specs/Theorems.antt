-- What follows from what a medium shows, and what a change leaves.
use Rattle.std.specs.Prelude.{◌≡◌, ℕ, suc, ◌+◌, ◌-◌, ◌/◌, ◌%◌, ◌^◌, ◌<◌, ◌≤◌, true, List, [], ◌++◌, map, length, None, Option, ◌==◌}
use Rattle.records.specs.Format.{highest}
use Rattle.record_laws.specs.Laws.{DecodesEncoded}
use Rattle.tree.specs.Nodes.{sibling_of}
use Rattle.forgetting.specs.Tree.{Tree, bare, key_of, even_of, odd_of, turn, place_in, content_of}
use Rattle.forgetting.specs.Climb.{sibling_key}
use Rattle.forgetting.specs.Change.{Record, Numbered, records, edited, single, draws, counted}
use Rattle.forgetting.specs.History.{root}
use Rattle.change.specs.Coded.{Cipher, coded, bytes_of}
use Rattle.change.specs.Outcome.{is_content}
use Rattle.index.specs.Rows.{key_row, content_row, Empty}
use Rattle.index.specs.Noted.{Rows, note_all, scanned, AllProper}
use Rattle.shown.specs.Shown.{KeyShown, Shows, Counts, Marks16, Keeps}

-- What hangs at a node hangs on the node above, to its even or its odd side.
abbrev pub StepsDown : (K C : Type 0) → Type 0
StepsDown K C =
    (g i : ℕ) (t : Tree K C) → place_in (suc g) i t ≡ turn (i % 2 == 0) (even_of (place_in g (i / 2) t)) (odd_of (place_in g (i / 2) t))

-- The way to a place goes through the nodes above it: d levels, g of them down to the node and h from there on.
abbrev pub GoesThrough : (K C : Type 0) → Type 0
GoesThrough K C = (d g h p : ℕ) (t : Tree K C) → d ≡ g + h → place_in d p t ≡ place_in h p (place_in g (p / 2 ^ h) t)

-- The sibling on the path, h levels above place p, is the node whose number is the sibling's of the path node's; i: its index.
abbrev pub SiblingAt : (K C : Type 0) → Type 0
SiblingAt K C =
    (d p h i : ℕ) (t : Tree K C) → h < d → 2 ^ (d - h) + i ≡ sibling_of ((2 ^ d + p) / 2 ^ h) → sibling_key d p h t ≡ key_of (place_in (d - h) i t)

-- A place holds nothing exactly where its content's row says so, and a node on its path that has no key says so too.
abbrev pub ReadsShown : Type 0
ReadsShown =
    (sealed : Cipher) (levels : ℕ) (bytes : List ℕ) (rows : Rows) (t : Tree Numbered (List ℕ)) → Shows sealed levels bytes rows t → (p : ℕ) → p < 2 ^ levels →
    (content_row rows.contents p ≡ None → content_of (place_in levels p t) ≡ None)
    × (content_of (place_in levels p t) ≡ None → content_row rows.contents p ≡ None)
    × ((h : ℕ) → h < levels → key_row rows.keys ((2 ^ levels + p) / 2 ^ h) ≡ None → content_of (place_in levels p t) ≡ None)

-- The key of the node on the path, h levels above place p.
abbrev pub key_above : (levels p h : ℕ) → Tree Numbered (List ℕ) → Option Numbered
key_above levels p h t = key_of (place_in (levels - h) (p / 2 ^ h) t)

-- The rows of a node on the path to a place, and of its sibling, show the keys of the two, sealed under the key of the path node above. By numbers: from the place's node up, each is the half of the one before.
abbrev pub PathShown : Type 0
PathShown =
    (sealed : Cipher) (levels : ℕ) (bytes : List ℕ) (rows : Rows) (t : Tree Numbered (List ℕ)) → Shows sealed levels bytes rows t → (p h : ℕ) → p < 2 ^ levels → h < levels →
    KeyShown sealed bytes ((2 ^ levels + p) / 2 ^ h) (key_row rows.keys ((2 ^ levels + p) / 2 ^ h)) (key_above levels p (suc h) t) (key_above levels p h t)
    × KeyShown sealed bytes (sibling_of ((2 ^ levels + p) / 2 ^ h)) (key_row rows.keys (sibling_of ((2 ^ levels + p) / 2 ^ h))) (key_above levels p (suc h) t) (sibling_key levels p h t)

-- An empty medium shows the empty tree.
abbrev pub EmptyShows : Type 0
EmptyShows = (sealed : Cipher) (levels : ℕ) (rows : Rows) → Empty levels rows.keys rows.contents → Shows sealed levels [] rows bare × Counts 0 bare

-- THE CHANGE OF ONE PLACE, added to the bytes of a medium and noted: the medium shows the changed tree. w: what is put in; none takes out what is there. keys: the keys that are drawn, in order.
abbrev pub ChangeKeeps : Type 0
ChangeKeeps =
    (sealed : Cipher) → Marks16 sealed → (levels place last : ℕ) (w : Option (List ℕ)) (keys : ℕ → List ℕ) (bytes : List ℕ) (rows : Rows) (t : Tree Numbered (List ℕ)) →
    1 ≤ levels → place < 2 ^ levels → is_content w ≡ true → ((j : ℕ) → j < draws w levels → length (keys j) ≡ 32) → last + draws w levels ≤ highest →
    Shows sealed levels bytes rows t → Counts last t →
    Keeps sealed levels bytes rows (records (last + 1) (root levels) (single w (counted w last keys) levels place) t) (edited (single w (counted w last keys) levels place) t) (last + draws w levels)

-- Scanning the bytes of proper records notes those records, given that what was encoded decodes to itself.
abbrev pub Scans : Type 0
Scans =
    DecodesEncoded → (sealed : Cipher) (levels most at : ℕ) (rs : List (Record Numbered (List ℕ))) (rows : Rows) → levels ≤ 20 → AllProper levels (map (coded sealed levels) rs) → length (bytes_of sealed levels rs) ≤ most →
    scanned levels most at (bytes_of sealed levels rs) rows ≡ note_all levels at (map (coded sealed levels) rs) rows

-- So rows that were scanned show the tree that those show which were noted.
abbrev pub ScannedShows : Type 0
ScannedShows =
    DecodesEncoded → (sealed : Cipher) (levels : ℕ) (bytes : List ℕ) (rows : Rows) (rs : List (Record Numbered (List ℕ))) (t : Tree Numbered (List ℕ)) (last : ℕ) → levels ≤ 20 →
    Keeps sealed levels bytes rows rs t last →
    Shows sealed levels (bytes ++ bytes_of sealed levels rs) (scanned levels (length (bytes_of sealed levels rs)) (length bytes) (bytes_of sealed levels rs) rows) t
