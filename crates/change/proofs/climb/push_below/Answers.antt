use Rattle.std.proofs.Common.{ℕ, ◌%◌, cond, List, ◌++◌, is_ok, vec_items, ap, ◌∙◌, arith}
use Rattle.change.specs.Nodes.{numbered}
use Rattle.change.proofs.Reading.{below_bytes}
use Rattle.change.proofs.climb.push_below.Goals as goal

pub returns : goal.returns
returns g c =
    c.push_key.ensures.out
    ∙ ap (λ (x : List ℕ). cond (is_ok c.push_key.result) (vec_items c.args.out.now ++ x) (vec_items c.args.out.now))
    (below_bytes g.S.Sealing.sealed c.args.node.number (c.args.node.number % 2) c.args.drawn.last c.args.drawn.keys.now c.args.j (numbered c.key.result) (numbered c.key-2.result) (omega arith) c.key.ensures c.key-2.ensures)
