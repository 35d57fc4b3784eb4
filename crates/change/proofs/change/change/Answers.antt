use Rattle.std.proofs.Common.{ℕ, List, ◌++◌, vec_items, sym, ap, ◌∙◌, arith}
use Rattle.change.specs.Nodes.{content_in}
use Rattle.change.proofs.Bridge.{whole_bytes}
use Rattle.change.proofs.Extending.{extends_done}
use Rattle.change.proofs.change.change.Goals as goal

pub returns : goal.returns
returns g c =
    let k = c.in_ok-node.ensures in (
      k.0,
      omega arith,
      λ t b.
          extends_done c.write-written.result (vec_items c.args.out.now) _ (vec_items c.write-written.new.out) (sym c.is_err.ensures.value ∙ c.if-is_err.false) c.write-written.ensures
          ∙ ap (λ (x : List ℕ). vec_items c.args.out.now ++ x)
          (whole_bytes g.S.Sealing.sealed c.args.path.levels c.args.path.place c.in_ok-node.node.number c.args.drawn.last c.args.drawn.keys.now c.args.path.siblings.now t k.2 k.1 b (content_in c.args.content)),
      k.3,
    )
