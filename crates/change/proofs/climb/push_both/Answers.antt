use Rattle.std.proofs.Common.{ℕ, ◌%◌, cond, List, ◌++◌, is_ok, vec_items, ap, ◌∙◌}
use Rattle.forgetting.specs.Change.{Numbered}
use Rattle.tree.specs.Nodes.{sibling_of}
use Rattle.change.specs.Coded.{key_bytes}
use Rattle.change.specs.Nodes.{key_in, numbered}
use Rattle.change.proofs.Extending.{extends_from, extends_then, extends_failed, kept_failed}
use Rattle.change.proofs.climb.push_both.Goals as goal

pub returns-in_err-push_below : goal.returns-in_err-push_below
returns-in_err-push_below g c = extends_failed c.from_residual.result _ _ _ c.from_residual.ensures.0 (kept_failed _ _ c.in_err-push_below.ensures)

pub returns : goal.returns
returns g c =
    let e =
    ap (λ (n : ℕ). key_bytes g.S.Sealing.sealed n (n % 2) (numbered c.key.result) (key_in c.args.sibling.now)) c.sibling.ensures
    ∙ ap (λ (u : Numbered). key_bytes g.S.Sealing.sealed (sibling_of c.args.node.number) (sibling_of c.args.node.number % 2) u (key_in c.args.sibling.now)) c.key.ensures in
    extends_then c.push_node.result _ _ _ (vec_items c.push_below.new.out) _ c.in_ok-push_below.ensures
    (extends_from c.push_node.result (vec_items c.push_below.new.out) _ _
    (c.push_node.ensures.out ∙ ap (λ (x : List ℕ). cond (is_ok c.push_node.result) (vec_items c.push_below.new.out ++ x) (vec_items c.push_below.new.out)) e))
