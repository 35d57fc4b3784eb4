-- The siblings that were collected are those of the tree that is shown.
use Rattle.std.proofs.Common.{ℕ, List, ◌++◌, vec_items, ap, ◌∙◌}
use Rattle.std.proofs.lemmas.Result.{err_from_is_err_and}
use Rattle.change.specs.Nodes.{content_in}
use Rattle.storage.specs.Prepares.{record_bytes}
use Rattle.storage.proofs.Answered.{fails_prepares}
use Rattle.storage.proofs.prepare.collect_and_write.Goals as goal

pub returns-in_err-collect : goal.returns-in_err-collect
returns-in_err-collect g c =
    let p = err_from_is_err_and c.from_residual.result c.from_residual.ensures.1 in
    let d = c.in_err-collect.ensures in
    rw (p.1, p.2) record {
      same = d.same;
      decides = d.running;
      prepares = λ first last t f s. fails_prepares g.S.Sealing.sealed c.args.leaf.levels c.args.leaf.place c.args.drawn.last (content_in c.args.content) c.args.drawn.keys.now c.in_err-collect.field-0.0 (vec_items c.args.out.now) t (d.all first last t f s);
    }

pub returns : goal.returns
returns g c =
    let d = c.in_ok-collect.ensures in
    let w = c.in_ok-number.ensures in
    record {
      same = d.same;
      decides = (w.0, w.1, w.3);
      prepares = λ first last t f s. w.2 t (d.all first last t f s) ∙ ap (λ (b : List ℕ). b ++ record_bytes g.S.Sealing.sealed c.args.leaf.levels c.args.leaf.place c.args.drawn.last (content_in c.args.content) c.args.drawn.keys.now t) c.requires.empty;
    }
