-- A turn opens the sibling's key and goes one node down; the last sibling is the place's.
use Rattle.std.proofs.Common.{◌≡◌, ℕ, suc, ◌+◌, ◌-◌, ◌/◌, ◌^◌, ◌<◌, ◌≤◌, length, set, Err, sym, ap, ◌∙◌, subst, arith}
use Rattle.std.proofs.lemmas.Result.{err_from_is_err_and}
use Rattle.forgetting.specs.Tree.{key_of, place_in}
use Rattle.forgetting.specs.Climb.{sibling_key}
use Rattle.tree.specs.Nodes.{sibling_of}
use Rattle.change.specs.Nodes.{key_in, sibling_in}
use Rattle.index.specs.Noted.{rows_of}
use Rattle.shown.proofs.NodeNumbers.{beside}
use Rattle.descent.specs.Path.{OfShown, KeyAt}
use Rattle.descent.proofs.Down.{path_hangs, sibling_hangs}
use Rattle.descent.proofs.Rows.{opened_row, followed_row, ended_row, unfollowed_row, row_runs, follow_runs}
use Rattle.descent.proofs.Beside.{one_more}
use Rattle.descent.proofs.LastRow.{collected}
use Rattle.descent.proofs.source.Source.collect.Goals as goal

pub returns-in_err-open_row : goal.returns-in_err-open_row
returns-in_err-open_row g c =
    let p = err_from_is_err_and c.from_residual.result c.from_residual.ensures.1 in
    let H = c.loop-h.h in
    let levels = c.args.leaf.levels in
    let place = c.args.leaf.place in
    let G = levels - H in
    let lg : G < levels = omega arith in
    let mid : H - 1 ≡ levels - 1 - G = omega arith in
    let reached : H ≡ levels - G = omega arith in
    let path = c.ancestor-on_path.ensures ∙ ap (λ n. n / 2 ^ (H - 1)) c.node-node.ensures ∙ ap (λ x. (2 ^ levels + place) / 2 ^ x) mid in
    let above = subst (λ x. OfShown g.S.Sealing.sealed levels (rows_of c.args.index.now) c.args.key.now.bytes (g.M.Medium.log c.args.self.now.medium) (g.M.Medium.log c.loop-h.self.medium) (KeyAt c.loop-h.key.bytes G (place / 2 ^ x))) reached c.loop-h.invariant.1 in
    let at = c.sibling-beside.ensures ∙ ap sibling_of path in
    let ends =
    ended_row g.S.Sealing.sealed g.met.S.Sealing.long g.met.S.Sealing.apart levels place G (beside (place / 2 ^ (levels - 1 - G))) c.sibling-beside.result.number (rows_of c.args.index.now) c.args.key.now.bytes (g.M.Medium.log c.args.self.now.medium) (g.M.Medium.log c.loop-h.self.medium) (g.M.Medium.log c.open_row.new.self.medium) c.loop-h.key.bytes c.loop-h.key.long
    (sibling_hangs levels place G c.sibling-beside.result.number lg c.args.leaf.there at) c.loop-h.invariant.0 above (Unit {0}) c.in_err-open_row.field-0.0 c.key-row.result (key_in c.open_row.new.held) (sym c.key-row.ensures) c.in_err-open_row.ensures in
    rw (p.1, p.2) record { same = ends.0; running = row_runs (Unit {0}) g.S.Sealing.sealed c.sibling-beside.result.number c.key-row.result c.loop-h.key.bytes (g.M.Medium.log c.loop-h.self.medium) (g.M.Medium.log c.open_row.new.self.medium) (Err c.in_err-open_row.field-0.0) (key_in c.open_row.new.held) c.in_err-open_row.ensures; all = ends.1 }

pub returns-in_err-follow : goal.returns-in_err-follow
returns-in_err-follow g c =
    let p = err_from_is_err_and c.from_residual-in_err-follow.result c.from_residual-in_err-follow.ensures.1 in
    let H = c.loop-h.h in
    let levels = c.args.leaf.levels in
    let place = c.args.leaf.place in
    let G = levels - H in
    let lg : G < levels = omega arith in
    let mid : H - 1 ≡ levels - 1 - G = omega arith in
    let reached : H ≡ levels - G = omega arith in
    let path = c.ancestor-on_path.ensures ∙ ap (λ n. n / 2 ^ (H - 1)) c.node-node.ensures ∙ ap (λ x. (2 ^ levels + place) / 2 ^ x) mid in
    let above = subst (λ x. OfShown g.S.Sealing.sealed levels (rows_of c.args.index.now) c.args.key.now.bytes (g.M.Medium.log c.args.self.now.medium) (g.M.Medium.log c.loop-h.self.medium) (KeyAt c.loop-h.key.bytes G (place / 2 ^ x))) reached c.loop-h.invariant.1 in
    let sib =
    opened_row g.S.Sealing.sealed g.met.S.Sealing.long g.met.S.Sealing.apart levels place G (beside (place / 2 ^ (levels - 1 - G))) c.sibling-beside.result.number (rows_of c.args.index.now) c.args.key.now.bytes (g.M.Medium.log c.args.self.now.medium) (g.M.Medium.log c.loop-h.self.medium) (g.M.Medium.log c.open_row.new.self.medium) c.loop-h.key.bytes c.loop-h.key.long
    (sibling_hangs levels place G c.sibling-beside.result.number lg c.args.leaf.there (c.sibling-beside.ensures ∙ ap sibling_of path)) c.loop-h.invariant.0 above (Unit {0}) c.in_ok-open_row.field-0 c.key-row.result (key_in c.open_row.new.held) (sym c.key-row.ensures) c.in_ok-open_row.ensures in
    let ends =
    unfollowed_row g.S.Sealing.sealed g.met.S.Sealing.long g.met.S.Sealing.apart levels place G (place / 2 ^ (levels - 1 - G)) c.ancestor-on_path.result.number (rows_of c.args.index.now) c.args.key.now.bytes (g.M.Medium.log c.args.self.now.medium) (g.M.Medium.log c.open_row.new.self.medium) (g.M.Medium.log c.follow.new.self.medium) c.loop-h.key.bytes c.loop-h.key.long
    (path_hangs levels place G c.ancestor-on_path.result.number lg c.args.leaf.there path) sib.unchanged (λ first last t f s. above first last t (sib.still first f) s) (Unit {0}) c.in_err-follow.field-0.0 c.key.result c.follow.new.key.bytes (sym c.key.ensures) c.in_err-follow.ensures in
    rw (p.1, p.2) record { same = ends.0; running = follow_runs (Unit {0}) g.S.Sealing.sealed c.ancestor-on_path.result.number c.key.result c.loop-h.key.bytes (g.M.Medium.log c.open_row.new.self.medium) (g.M.Medium.log c.follow.new.self.medium) c.in_err-follow.field-0.0 c.follow.new.key.bytes c.in_err-follow.ensures; all = ends.1 }

pub loop-h-preserved : goal.loop-h-preserved
loop-h-preserved g c =
    let H = c.loop-h.h in
    let levels = c.args.leaf.levels in
    let place = c.args.leaf.place in
    let G = levels - H in
    let lg : G < levels = omega arith in
    let mid : H - 1 ≡ levels - 1 - G = omega arith in
    let reached : H ≡ levels - G = omega arith in
    let path = c.ancestor-on_path.ensures ∙ ap (λ n. n / 2 ^ (H - 1)) c.node-node.ensures ∙ ap (λ x. (2 ^ levels + place) / 2 ^ x) mid in
    let above = subst (λ x. OfShown g.S.Sealing.sealed levels (rows_of c.args.index.now) c.args.key.now.bytes (g.M.Medium.log c.args.self.now.medium) (g.M.Medium.log c.loop-h.self.medium) (KeyAt c.loop-h.key.bytes G (place / 2 ^ x))) reached c.loop-h.invariant.1 in
    let one : suc G ≡ levels - (H - 1) = omega arith in
    let sib =
    opened_row g.S.Sealing.sealed g.met.S.Sealing.long g.met.S.Sealing.apart levels place G (beside (place / 2 ^ (levels - 1 - G))) c.sibling-beside.result.number (rows_of c.args.index.now) c.args.key.now.bytes (g.M.Medium.log c.args.self.now.medium) (g.M.Medium.log c.loop-h.self.medium) (g.M.Medium.log c.open_row.new.self.medium) c.loop-h.key.bytes c.loop-h.key.long
    (sibling_hangs levels place G c.sibling-beside.result.number lg c.args.leaf.there (c.sibling-beside.ensures ∙ ap sibling_of path)) c.loop-h.invariant.0 above (Unit {0}) c.in_ok-open_row.field-0 c.key-row.result (key_in c.open_row.new.held) (sym c.key-row.ensures) c.in_ok-open_row.ensures in
    let down =
    followed_row g.S.Sealing.sealed g.met.S.Sealing.long g.met.S.Sealing.apart levels place G (place / 2 ^ (levels - 1 - G)) c.ancestor-on_path.result.number (rows_of c.args.index.now) c.args.key.now.bytes (g.M.Medium.log c.args.self.now.medium) (g.M.Medium.log c.open_row.new.self.medium) (g.M.Medium.log c.follow.new.self.medium) c.loop-h.key.bytes c.loop-h.key.long
    (path_hangs levels place G c.ancestor-on_path.result.number lg c.args.leaf.there path) sib.unchanged (λ first last t f s. above first last t (sib.still first f) s) (Unit {0}) c.in_ok-follow.field-0 c.key.result c.follow.new.key.bytes c.follow.new.key.long (sym c.key.ensures) c.in_ok-follow.ensures in (
      down.unchanged,
      (λ first last t f s k is. down.known first last t f s k (ap (λ x. key_of (place_in (suc G) (place / 2 ^ x) t)) (sym mid) ∙ ap (λ x. key_of (place_in x (place / 2 ^ (H - 1)) t)) one ∙ is)),
      (λ first last t f s h from to.
          let f1 = down.still first f in
          let others : (k : ℕ) → levels - G ≤ k → k < levels → sibling_in c.loop-h.siblings k ≡ sibling_key levels place k t = λ k low high. c.loop-h.invariant.2 first last t (sib.still first f1) s k (omega arith) high in
          ap (λ x. sibling_in (set c.loop-h.siblings x c.open_row.new.held) h) mid ∙ one_more levels place G c.loop-h.siblings c.open_row.new.held t lg (omega arith) (sib.known first last t f1 s) others h (omega arith) to),
      omega arith,
    )

pub returns : goal.returns
returns g c =
    let levels = c.args.leaf.levels in
    let place = c.args.leaf.place in
    let G = levels - c.loop-h.h in
    let end : suc G ≡ levels = omega arith in
    let reached : c.loop-h.h ≡ levels - G = omega arith in
    let P = OfShown g.S.Sealing.sealed levels (rows_of c.args.index.now) c.args.key.now.bytes (g.M.Medium.log c.args.self.now.medium) (g.M.Medium.log c.loop-h.self.medium) in
    let above = subst (λ x. P (KeyAt c.loop-h.key.bytes G (place / 2 ^ x))) reached c.loop-h.invariant.1 in
    let others = subst (λ x. P (λ t. (h : ℕ) → x ≤ h → h < levels → sibling_in c.loop-h.siblings h ≡ sibling_key levels place h t)) reached c.loop-h.invariant.2 in
    let long : levels ≤ length c.loop-h.siblings = omega arith in
    let last =
    collected g.S.Sealing.sealed g.met.S.Sealing.long g.met.S.Sealing.apart levels place G c.sibling-last.result.number (rows_of c.args.index.now) c.args.key.now.bytes (g.M.Medium.log c.args.self.now.medium) (g.M.Medium.log c.loop-h.self.medium) (g.M.Medium.log c.open_row-2.new.self.medium) c.loop-h.key.bytes c.loop-h.key.long
    c.loop-h.siblings c.open_row-2.new.held end c.args.leaf.there long (c.sibling-last.ensures ∙ ap sibling_of c.node-node.ensures) c.key-row-2.result (sym c.key-row-2.ensures) c.loop-h.invariant.0 above others c.open_row-2.result c.open_row-2.ensures in
    record { same = last.0; running = row_runs (Unit {0}) g.S.Sealing.sealed c.sibling-last.result.number c.key-row-2.result c.loop-h.key.bytes (g.M.Medium.log c.loop-h.self.medium) (g.M.Medium.log c.open_row-2.new.self.medium) c.open_row-2.result (key_in c.open_row-2.new.held) c.open_row-2.ensures; all = last.1 }
