use Rattle.std.proofs.Common.{ℕ, map, vec_items, ap, ◌∙◌}
use Rattle.sealing.specs.declared.key.Key.{Key}
use Rattle.change.specs.Nodes.{key_in, content_in}
use Rattle.rehearsal.specs.Keys.{keys_after}
use Rattle.rehearsal.specs.Siblings.{siblings_of}
use Rattle.rehearsal.proofs.Recording.{draws_lent, if_recorded}
use Rattle.rehearsal.proofs.state.Rehearsal.write.Goals as goal

pub returns : goal.returns
returns c =
    let given = c.in_ok-given.ensures in
    if_recorded c.args.leaf.levels c.args.leaf.place c.args.self.now.last (content_in c.args.content) c.deref.result.now c.deref-2.result.now c.args.self.now.numbers.0 (vec_items c.args.out.now) (vec_items c.change.new.out) c.change.result
    (ap (map (λ (k : Key). k.bytes)) c.deref.ensures.value ∙ given.2 ∙ ap (keys_after c.args.self.now.last) (c.draws-count.ensures ∙ draws_lent c.args.content c.args.leaf.levels))
    (ap (map key_in) c.deref-2.ensures.value ∙ given.1 ∙ ap (λ (n : ℕ). siblings_of n c.args.self.now.numbers.0 c.args.leaf.levels) c.node.ensures)
    c.requires
    c.change.ensures
