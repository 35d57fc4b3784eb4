-- A turn is a step down to the next path node; it ends early where that has no key, or where the medium fails.
use Rattle.std.proofs.Common.{◌≡◌, suc, ◌+◌, ◌-◌, ◌/◌, ◌^◌, sym, ap, ◌∙◌, subst, arith}
use Rattle.std.specs.Option.{ok_or}
use Rattle.std.proofs.lemmas.Result.{err_from_is_err_and}
use Rattle.tree.specs.declared.answer.Refusal.TheVariants.{Nothing}
use Rattle.devices.specs.Events.{changes}
use Rattle.devices.proofs.Laws.{changes-got}
use Rattle.index.specs.Noted.{rows_of}
use Rattle.forgetting.specs.Tree.{key_of, place_in, content_of}
use Rattle.descent.specs.Path.{OfShown, KeyAt}
use Rattle.descent.proofs.Down.{path_hangs, turn_down, turn-ends, fails_ends, no_row}
use Rattle.descent.proofs.source.Source.descend.Goals as goal

pub returns-in_err-row-clause-down : goal.returns-in_err-row-clause-down
returns-in_err-row-clause-down g c =
    let p = err_from_is_err_and c.from_residual.result c.from_residual.ensures.1 in
    let e = c.in_err-row.ensures in
    let none = ap (λ row. ok_or row Nothing) e.ok_part in
    let why : c.in_err-row.field-0.0 ≡ Nothing = cc in
    let H = c.loop-h.h in
    let levels = c.args.leaf.levels in
    let place = c.args.leaf.place in
    let mid : H - 1 ≡ levels - 1 - (levels - H) = omega arith in
    let at = c.ancestor-on_path.ensures ∙ ap (λ n. n / 2 ^ (H - 1)) c.node-node.ensures ∙ ap (λ x. (2 ^ levels + place) / 2 ^ x) mid in
    rw (p.1, p.2, why) (no_row g.S.Sealing.sealed levels place (levels - H) c.ancestor-on_path.result.number (rows_of c.args.index.now) c.args.key.now.bytes (g.M.Medium.log c.args.self.now.medium) (g.M.Medium.log c.loop-h.self.medium) (omega arith) c.args.leaf.there at (sym c.key.ensures ∙ e.ok_part))

pub returns-in_err-step_down : goal.returns-in_err-step_down
returns-in_err-step_down g c =
    let p = err_from_is_err_and c.from_residual-in_err-step_down.result c.from_residual-in_err-step_down.ensures.1 in
    let H = c.loop-h.h in
    let levels = c.args.leaf.levels in
    let place = c.args.leaf.place in
    let G = levels - H in
    let n = c.ancestor-on_path.result.number in
    let mid : H - 1 ≡ levels - 1 - G = omega arith in
    let up : H ≡ levels - G = omega arith in
    let at = c.ancestor-on_path.ensures ∙ ap (λ n. n / 2 ^ (H - 1)) c.node-node.ensures ∙ ap (λ x. (2 ^ levels + place) / 2 ^ x) mid in
    let rows = rows_of c.args.index.now in
    let before = g.M.Medium.log c.args.self.now.medium in
    let middle = g.M.Medium.log c.loop-h.self.medium in
    let above = subst (λ x. OfShown g.S.Sealing.sealed levels rows c.args.key.now.bytes before middle (KeyAt c.loop-h.key.bytes G (place / 2 ^ x))) up c.loop-h.invariant.1 in
    let ends =
    turn-ends g.S.Sealing.sealed g.met.S.Sealing.long g.met.S.Sealing.apart levels place G (place / 2 ^ (levels - 1 - G)) n c.in_ok-row.row rows c.args.key.now.bytes before middle (g.M.Medium.log c.step_down.new.self.medium) c.loop-h.key.bytes
    (path_hangs levels place G n (omega arith) c.args.leaf.there at) (sym c.key.ensures ∙ c.in_ok-row.ensures.ok_part) c.loop-h.invariant.0 above (Unit {0}) c.in_err-step_down.field-0.0 c.step_down.new.key.bytes c.in_err-step_down.ensures in
    rw (p.1, p.2) record { same = ends.0; down = λ first last t f s. fails_ends c.in_err-step_down.field-0.0 (content_of (place_in levels place t)) (ends.1 first last t f s) }

pub loop-h-preserved : goal.loop-h-preserved
loop-h-preserved g c =
    let H = c.loop-h.h in
    let levels = c.args.leaf.levels in
    let place = c.args.leaf.place in
    let G = levels - H in
    let n = c.ancestor-on_path.result.number in
    let mid : H - 1 ≡ levels - 1 - G = omega arith in
    let up : H ≡ levels - G = omega arith in
    let one : suc G ≡ levels - (H - 1) = omega arith in
    let at = c.ancestor-on_path.ensures ∙ ap (λ n. n / 2 ^ (H - 1)) c.node-node.ensures ∙ ap (λ x. (2 ^ levels + place) / 2 ^ x) mid in
    let o = c.in_ok-step_down.ensures in
    let rows = rows_of c.args.index.now in
    let before = g.M.Medium.log c.args.self.now.medium in
    let middle = g.M.Medium.log c.loop-h.self.medium in
    let above = subst (λ x. OfShown g.S.Sealing.sealed levels rows c.args.key.now.bytes before middle (KeyAt c.loop-h.key.bytes G (place / 2 ^ x))) up c.loop-h.invariant.1 in
    let down =
    turn_down g.S.Sealing.sealed g.met.S.Sealing.long g.met.S.Sealing.apart levels place G (place / 2 ^ (levels - 1 - G)) n c.in_ok-row.row rows c.args.key.now.bytes before middle (g.M.Medium.log c.step_down.new.self.medium) c.loop-h.key.bytes
    (path_hangs levels place G n (omega arith) c.args.leaf.there at) (sym c.key.ensures ∙ c.in_ok-row.ensures.ok_part) c.loop-h.invariant.0 above c.step_down.new.key.bytes c.loop-h.key.long c.step_down.new.key.long o in (
      ap changes o ∙ changes-got _ _ _ ∙ c.loop-h.invariant.0,
      λ first last t f s k is. down first last t f s k (ap (λ x. key_of (place_in (suc G) (place / 2 ^ x) t)) (sym mid) ∙ ap (λ x. key_of (place_in x (place / 2 ^ (H - 1)) t)) one ∙ is),
    )

pub returns-clause-down : goal.returns-clause-down
returns-clause-down g c =
    let levels = c.args.leaf.levels in
    let place = c.args.leaf.place in
    let none : c.loop-h.h ≡ 0 = omega arith in
    let all : levels - 0 ≡ levels = omega arith in
    let whole : place / 2 ^ 0 ≡ place = omega arith in
    λ first last t f s k is. c.loop-h.invariant.1 first last t f s k (ap (λ x. key_of (place_in (levels - x) (place / 2 ^ x) t)) none ∙ ap (λ x. key_of (place_in x (place / 2 ^ 0) t)) all ∙ ap (λ x. key_of (place_in levels x t)) whole ∙ is)
