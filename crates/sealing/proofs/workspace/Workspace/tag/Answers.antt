use Rattle.std.proofs.Common.{ap, ◌∙◌}
use Rattle.sealing.proofs.Laws.{tag_parts}
use Rattle.poly1305.specs.State.{multiplier}
use Rattle.sealing.specs.Work.{absorbed_text}
use Rattle.sealing.proofs.workspace.Workspace.tag.Goals as goal

pub returns-clause-tag : goal.returns-clause-tag
returns-clause-tag c =
    c.finish.ensures.tag
    ∙ tag_parts c.args.key.now c.args.nonce.now c.args.marked.now c.args.sealed.now _ _ _ c.begin_mark.ensures.multiplier
    (c.absorb_text.ensures.accumulator ∙ ap (λ a. absorbed_text (multiplier c.begin_mark.new.self.mark) a c.args.marked.now c.args.sealed.now) c.begin_mark.ensures.accumulator)
    (c.absorb_text.ensures.added ∙ c.begin_mark.ensures.added)
