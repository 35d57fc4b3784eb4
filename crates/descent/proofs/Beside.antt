-- The siblings that are held, level by level.
use Rattle.std.proofs.Common.{◌≡◌, ℕ, suc, ◌+◌, ◌-◌, ◌/◌, ◌^◌, ◌<◌, ◌≤◌, List, length, set, Option, sym, ap, ◌∙◌, inl, inr, arith}
use Rattle.std.proofs.lemmas.Bool.{cases_eq}
use Rattle.forgetting.specs.Tree.{Tree, key_of, place_in}
use Rattle.forgetting.specs.Climb.{sibling_key}
use Rattle.forgetting.specs.Change.{Numbered}
use Rattle.change.specs.Nodes.{key_in, sibling_in}
use Rattle.change.proofs.Siblings.{held_here, held_elsewhere}
use Rattle.change.specs.declared.node.NodeKey.{NodeKey}
use Rattle.shown.proofs.NodeNumbers.{beside}
use Rattle.shown.proofs.Descent.{sibling_beside}

-- One level more: the sibling of that level is held, and those above it were.
pub one_more : (levels place g : ℕ) (nodes : List (Option NodeKey)) (node : Option NodeKey) (t : Tree Numbered (List ℕ)) → g < levels → levels ≤ length nodes
    → key_in node ≡ key_of (place_in (suc g) (beside (place / 2 ^ (levels - 1 - g))) t)
    → ((h : ℕ) → levels - g ≤ h → h < levels → sibling_in nodes h ≡ sibling_key levels place h t)
    → (h : ℕ) → levels - (g + 1) ≤ h → h < levels → sibling_in (set nodes (levels - 1 - g) node) h ≡ sibling_key levels place h t
one_more levels place g nodes node t lg ll here above h from to =
    elim (cases_eq (levels - 1 - g) h) [
      | inl e ↦ (
          let l : h < length nodes = omega arith in
          let d : levels ≡ g + suc h = omega arith in
          ap (λ n. sibling_in (set nodes n node) h) e ∙ held_here nodes h node l ∙ here ∙ ap (λ n. key_of (place_in (suc g) (beside (place / 2 ^ n)) t)) e ∙ sym (sibling_beside levels g h place t d))
      | inr other ↦ held_elsewhere nodes (levels - 1 - g) h node other ∙ above h (omega arith) to
    ]
