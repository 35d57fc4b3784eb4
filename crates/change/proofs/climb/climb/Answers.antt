use Rattle.std.proofs.Common.{ℕ, ◌+◌, ◌-◌, ◌/◌, ◌^◌, List, ◌++◌, vec_items, sym, ap, ◌∙◌, arith}
use Rattle.std.proofs.lemmas.List.{get_or-take}
use Rattle.change.specs.Nodes.{key_in, sibling_in}
use Rattle.change.specs.Turns.{turn_bytes}
use Rattle.change.proofs.Reading.{sibling_read}
use Rattle.change.proofs.Turning.{turns_none, turns_more, half_more}
use Rattle.change.proofs.Extending.{extends_more, extends_failed, kept_then}
use Rattle.change.proofs.climb.climb.Goals as goal

pub loop-h-init : goal.loop-h-init
loop-h-init g c =
    (omega arith, turns_none g.S.Sealing.sealed c.args.start.number c.args.first c.args.drawn.last c.args.drawn.keys.now c.args.path.siblings.now (vec_items c.args.out.now))

pub loop-h-preserved : goal.loop-h-preserved
loop-h-preserved g c = (
  c.parent-node.ensures ∙ half_more c.args.start.number c.loop-h.h c.loop-h.node.number c.loop-h.invariant.0,
  extends_more (vec_items c.args.out.now) _ (turn_bytes g.S.Sealing.sealed (c.args.start.number / 2 ^ c.loop-h.h) c.args.drawn.last c.args.drawn.keys.now (c.loop-h.h + c.args.first) (sibling_in c.args.path.siblings.now c.loop-h.h))
      (vec_items c.loop-h.out) (vec_items c.push_both.new.out) c.loop-h.invariant.1
      (c.in_ok-push_both.ensures
      ∙ ap (λ (x : List ℕ). vec_items c.loop-h.out ++ x)
      (ap (λ (n : ℕ). turn_bytes g.S.Sealing.sealed n c.args.drawn.last c.args.drawn.keys.now (c.loop-h.h + c.args.first) (key_in c.sibling-item.result)) c.loop-h.invariant.0
      ∙ ap (turn_bytes g.S.Sealing.sealed (c.args.start.number / 2 ^ c.loop-h.h) c.args.drawn.last c.args.drawn.keys.now (c.loop-h.h + c.args.first))
      (sym (sibling_read c.args.path.siblings.now c.loop-h.h c.sibling-item.result (omega arith) (c.sibling-item.is ∙ get_or-take (c.args.path.levels - 0) c.args.path.siblings.now c.loop-h.h c.sibling-item.result (omega arith))))))
      ∙ ap (λ (x : List ℕ). vec_items c.args.out.now ++ x) (turns_more g.S.Sealing.sealed c.args.start.number c.args.first c.args.drawn.last c.args.drawn.keys.now c.args.path.siblings.now c.loop-h.h),
)

pub returns-in_err-push_both : goal.returns-in_err-push_both
returns-in_err-push_both g c =
    extends_failed c.from_residual.result _ _ _ c.from_residual.ensures.0
    (kept_then (vec_items c.args.out.now) _ (vec_items c.loop-h.out) _ c.loop-h.invariant.1 c.in_err-push_both.ensures)
