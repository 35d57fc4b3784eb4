-- The last of the siblings along a path, that of the place itself.
use Rattle.std.proofs.Common.{◌≡◌, ℕ, suc, ◌+◌, ◌-◌, ◌/◌, ◌^◌, ◌<◌, ◌≤◌, List, length, set, Ok, Err, Option, Result, sym, ap, ◌∙◌, arith}
use Rattle.tree.specs.Nodes.{sibling_of}
use Rattle.forgetting.specs.Climb.{sibling_key}
use Rattle.change.specs.Coded.{Cipher}
use Rattle.change.specs.Nodes.{key_in, sibling_in}
use Rattle.change.specs.declared.node.NodeKey.{NodeKey}
use Rattle.index.specs.declared.row.KeyRow.{KeyRow}
use Rattle.index.specs.Rows.{key_row}
use Rattle.index.specs.Noted.{Rows}
use Rattle.shown.specs.Shown.{Marks16}
use Rattle.shown.proofs.NodeNumbers.{beside}
use Rattle.devices.specs.Events.{Event, changes}
use Rattle.descent.specs.Opened.{OpensRow}
use Rattle.descent.specs.Path.{OfShown, KeyAt, Collects}
use Rattle.descent.specs.declared.failure.Failure.{Failure}
use Rattle.descent.proofs.Down.{TextsApart, sibling_hangs}
use Rattle.descent.proofs.Rows.{opened_row, ended_row}
use Rattle.descent.proofs.Beside.{one_more}

module _ (sealed : Cipher) (long : Marks16 sealed) (apart : TextsApart sealed) (levels place G at : ℕ) (rows : Rows) (root : List ℕ) (before middle after : List Event) (u : List ℕ) (lu : length u ≡ 32) (nodes : List (Option NodeKey)) (node : Option NodeKey)
    (end : suc G ≡ levels) (lp : place < 2 ^ levels) (ll : levels ≤ length nodes) (is_at : at ≡ sibling_of (2 ^ levels + place)) (row : Option KeyRow) (is_row : key_row rows.keys at ≡ row) (same : changes middle ≡ changes before)
    (above : OfShown sealed levels rows root before middle (KeyAt u G (place / 2 ^ (levels - G))))
    (others : OfShown sealed levels rows root before middle (λ t. (h : ℕ) → levels - G ≤ h → h < levels → sibling_in nodes h ≡ sibling_key levels place h t)) where
  lg : G < levels
  lg = omega arith

  none : levels - 1 - G ≡ 0
  none = omega arith

  whole : at ≡ sibling_of ((2 ^ levels + place) / 2 ^ (levels - 1 - G))
  whole =
      let one : 2 ^ levels + place ≡ (2 ^ levels + place) / 2 ^ 0 = omega arith in
      is_at ∙ ap sibling_of (one ∙ ap (λ n. (2 ^ levels + place) / 2 ^ n) (sym none))

  pub collected : (r : Result (Unit {0}) Failure) → OpensRow sealed at row u middle after r (key_in node) → (changes after ≡ changes before) × OfShown sealed levels rows root before after (Collects levels place r (set nodes 0 node))
  collected (Ok x) o =
      let turn = opened_row sealed long apart levels place G (beside (place / 2 ^ (levels - 1 - G))) at rows root before middle after u lu (sibling_hangs levels place G at lg lp whole) same above (Unit {0}) x row (key_in node) is_row o in (
        turn.unchanged,
        λ first last t f s h lh.
            ap (λ n. sibling_in (set nodes n node) h) (sym none) ∙ one_more levels place G nodes node t lg ll (turn.known first last t f s) (others first last t (turn.still first f) s) h (omega arith) lh,
      )
  collected (Err why) o = ended_row sealed long apart levels place G (beside (place / 2 ^ (levels - 1 - G))) at rows root before middle after u lu (sibling_hangs levels place G at lg lp whole) same above (Unit {0}) why row (key_in node) is_row o
