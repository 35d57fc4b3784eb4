-- What rows say of a place.
use Rattle.std.proofs.Common.{◌≡◌, ℕ, suc, ◌+◌, ◌-◌, ◌/◌, ◌^◌, ◌<◌, List, [], length, Some, None, Option, sym, refl, ap, ◌∙◌, subst, arith}
use Rattle.std.proofs.lemmas.List.{length-replicate, get_or-replicate}
use Rattle.tree.specs.Nodes.{sibling_of}
use Rattle.forgetting.specs.Tree.{Tree, bare, leaf, node, key_of, place_in, content_of}
use Rattle.forgetting.specs.Change.{Numbered}
use Rattle.forgetting.specs.Climb.{sibling_key}
use Rattle.forgetting.proofs.Members.{in_none}
use Rattle.change.specs.Coded.{Cipher}
use Rattle.change.proofs.Bridge.{path_number, sibling_number}
use Rattle.index.specs.declared.row.KeyRow.{KeyRow}
use Rattle.index.specs.declared.row.ContentRow.{ContentRow}
use Rattle.index.specs.Rows.{key_row, content_row}
use Rattle.shown.specs.Shown.{KeyShown, ContentShown}
use Rattle.shown.specs.Theorems.{ReadsShown, key_above, PathShown, EmptyShows}
use Rattle.shown.proofs.NodeNumbers.{shifted, beside, beside_half, beside_below, index_below, level_below}
use Rattle.shown.proofs.Descent.{through, sibling_beside, in_bare, no_key}

-- A row that says that there is no key, and what a node without a key has for a row.
pub row_no_key : (sealed : Cipher) (bytes : List ℕ) (at : ℕ) (row : Option KeyRow) (above key : Option Numbered) → KeyShown sealed bytes at row above key → row ≡ None → key ≡ None
row_no_key sealed bytes at None above None s e = refl
row_no_key sealed bytes at None above (Some k) s e = absurd s
row_no_key sealed bytes at (Some row) above None s e = refl
row_no_key sealed bytes at (Some row) above (Some k) s e = cc

pub no_key_row : (sealed : Cipher) (bytes : List ℕ) (at : ℕ) (row : Option KeyRow) (above key : Option Numbered) → KeyShown sealed bytes at row above key → key ≡ None → row ≡ None
no_key_row sealed bytes at None above key s e = refl
no_key_row sealed bytes at (Some row) above None s e = absurd s
no_key_row sealed bytes at (Some row) above (Some k) s e = cc

pub row_no_content : (sealed : Cipher) (bytes : List ℕ) (at : ℕ) (row : Option ContentRow) (t : Tree Numbered (List ℕ)) → ContentShown sealed bytes at row t → row ≡ None → content_of t ≡ None
row_no_content sealed bytes at row bare s e = refl
row_no_content sealed bytes at None (leaf k c) s e = absurd s
row_no_content sealed bytes at (Some row) (leaf k c) s e = cc
row_no_content sealed bytes at row (node k l r) s e = refl

pub no_content_row : (sealed : Cipher) (bytes : List ℕ) (at : ℕ) (row : Option ContentRow) (t : Tree Numbered (List ℕ)) → ContentShown sealed bytes at row t → content_of t ≡ None → row ≡ None
no_content_row sealed bytes at None t s e = refl
no_content_row sealed bytes at (Some row) bare s e = absurd s
no_content_row sealed bytes at (Some row) (leaf k c) s e = cc
no_content_row sealed bytes at (Some row) (node k l r) s e = absurd s

pub reads_shown : ReadsShown
reads_shown sealed levels bytes rows t s p l = (
  (λ e. row_no_content sealed bytes (2 ^ levels + p) (content_row rows.contents p) (place_in levels p t) (s.contents p l) e),
  (λ e. no_content_row sealed bytes (2 ^ levels + p) (content_row rows.contents p) (place_in levels p t) (s.contents p l) e),
  (λ h b e.
      let g = levels - h - 1 in
      let q = p / 2 ^ h in
      let n : levels - h ≡ suc g = omega arith in
      let at : (2 ^ levels + p) / 2 ^ h ≡ 2 ^ suc g + q = sym (path_number levels p h b) ∙ ap (λ x. 2 ^ x + q) n in
      let shown = s.keys g q (omega arith) (index_below levels (suc g) h p (omega arith) l) in
      let x = row_no_key sealed bytes (2 ^ suc g + q) (key_row rows.keys (2 ^ suc g + q)) (key_of (place_in g (q / 2) t)) (key_of (place_in (suc g) q t)) shown (ap (key_row rows.keys) (sym at) ∙ e) in
      ap content_of (through levels (suc g) h p t (omega arith) ∙ ap (place_in h p) (no_key (place_in (suc g) q t) x) ∙ in_bare h p)),
)

-- The rows of the path and of the siblings along it.
pub path_shown : PathShown
path_shown sealed levels bytes rows t s p h l b =
    let g = levels - suc h in
    let q = p / 2 ^ h in
    let e : levels ≡ g + suc h = omega arith in
    let n : levels - h ≡ suc g = omega arith in
    let up : q / 2 ≡ p / 2 ^ suc h = shifted (suc h) 1 h p (omega arith) in
    let ql : q < 2 ^ suc g = index_below levels (suc g) h p (omega arith) l in
    let bl = beside_below g q ql in
    let on : 2 ^ suc g + q ≡ (2 ^ levels + p) / 2 ^ h = ap (λ x. 2 ^ x + q) (sym n) ∙ path_number levels p h b in
    let by : 2 ^ suc g + beside q ≡ sibling_of ((2 ^ levels + p) / 2 ^ h) = ap (λ x. 2 ^ x + beside q) (sym n) ∙ sibling_number levels p h b in
    let above : key_of (place_in g (q / 2) t) ≡ key_above levels p (suc h) t = ap (λ x. key_of (place_in g x t)) up in
    let above' : key_of (place_in g (beside q / 2) t) ≡ key_above levels p (suc h) t = ap (λ x. key_of (place_in g x t)) (beside_half q ∙ up) in
    let here : key_of (place_in (suc g) q t) ≡ key_above levels p h t = ap (λ x. key_of (place_in x q t)) (sym n) in (
      moved (2 ^ suc g + q) ((2 ^ levels + p) / 2 ^ h) (key_of (place_in g (q / 2) t)) (key_above levels p (suc h) t) (key_of (place_in (suc g) q t)) (key_above levels p h t) on above here (s.keys g q (omega arith) ql),
      moved (2 ^ suc g + beside q) (sibling_of ((2 ^ levels + p) / 2 ^ h)) (key_of (place_in g (beside q / 2) t)) (key_above levels p (suc h) t) (key_of (place_in (suc g) (beside q) t)) (sibling_key levels p h t) by above'
          (sym (sibling_beside levels g h p t e)) (s.keys g (beside q) (omega arith) bl),
    )
  where
    moved : (n n' : ℕ) (a a' k k' : Option Numbered) → n ≡ n' → a ≡ a' → k ≡ k' → KeyShown sealed bytes n (key_row rows.keys n) a k → KeyShown sealed bytes n' (key_row rows.keys n') a' k'
    moved n n' a a' k k' e f g x =
        subst (λ y. KeyShown sealed bytes y (key_row rows.keys y) a' k') e
        (subst (λ (y : Option Numbered). KeyShown sealed bytes n (key_row rows.keys n) y k') f (subst (λ (y : Option Numbered). KeyShown sealed bytes n (key_row rows.keys n) a y) g x))

-- The node at the top of a path is the root.
pub key_of_root : (levels p : ℕ) (t : Tree Numbered (List ℕ)) → key_above levels p levels t ≡ key_of t
key_of_root levels p t = let z : levels - levels ≡ 0 = omega arith in ap (λ x. key_of (place_in x (p / 2 ^ levels) t)) z

-- An empty medium.
pub empty_shows : EmptyShows
empty_shows sealed levels rows e = (
  record {
    deep = tt;
    nodes = ap length e.0 ∙ length-replicate (2 ^ (levels + 1)) None;
    places = ap length e.1 ∙ length-replicate (2 ^ levels) None;
    keys = λ g i l b.
        let n = 2 ^ suc g + i in
        let row : key_row rows.keys n ≡ None =
        ap (λ (x : List (Option KeyRow)). key_row x n) e.0 ∙ get_or-replicate (2 ^ (levels + 1)) n None None (level_below (suc g) (levels + 1) i (omega arith) b) in
        let none : Tree Numbered (List ℕ) = bare in
        let key : key_of (place_in (suc g) i none) ≡ None = ap key_of (in_bare (suc g) i) in
        subst (λ (x : Option KeyRow). KeyShown sealed [] n x (key_of (place_in g (i / 2) none)) (key_of (place_in (suc g) i none))) (sym row)
        (subst (λ (x : Option Numbered). KeyShown sealed [] n None (key_of (place_in g (i / 2) none)) x) (sym key) tt);
    contents = λ p l.
        let row : content_row rows.contents p ≡ None = ap (λ (x : List (Option ContentRow)). content_row x p) e.1 ∙ get_or-replicate (2 ^ levels) p None None l in
        subst (λ (x : Option ContentRow). ContentShown sealed [] (2 ^ levels + p) x (place_in levels p bare)) (sym row)
        (subst (λ (x : Tree Numbered (List ℕ)). ContentShown sealed [] (2 ^ levels + p) None x) (sym (in_bare levels p)) tt);
  },
  record { keys = λ k m. in_none m; contents = λ c h. absurd h },
)
