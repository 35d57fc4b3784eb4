-- The row says how long the content is; the way down leads to its key; then it is opened.
use Rattle.std.proofs.Common.{◌≡◌, ℕ, ◌+◌, ◌^◌, ◌∷◌, length, take, Err, sym, refl, ap, ◌∙◌, subst, arith, length-take-le}
use Rattle.std.proofs.lemmas.Result.{err_from_is_err_and}
use Rattle.cipher.specs.Sealed.{slot_nonce}
use Rattle.records.specs.Format.{head}
use Rattle.forgetting.specs.Tree.{place_in, content_of}
use Rattle.index.specs.Noted.{rows_of}
use Rattle.devices.specs.Events.{changes, got}
use Rattle.devices.proofs.Laws.{changes-got}
use Rattle.descent.specs.Opened.{Opens}
use Rattle.descent.proofs.Down.{fails_ends}
use Rattle.storage.proofs.Content.{row_long, content-opened, content-ends}
use Rattle.storage.proofs.read.read_place.Goals as goal

pub returns-then-count-gt4096 : goal.returns-then-count-gt4096
returns-then-count-gt4096 g c =
    record {
      same = refl;
      fits = tt;
      reads = λ first last t f s.
          let i = row_long g.S.Sealing.sealed c.args.leaf.levels c.args.leaf.place c.in_ok-row.row (rows_of c.args.index.now) c.args.leaf.there (sym c.content.ensures ∙ c.in_ok-row.ensures.ok_part) c.args.key.now.bytes (g.M.Medium.log c.args.source.now.medium) (g.M.Medium.log c.args.source.now.medium) first last t f s in
          omega (arith, i.2, i.3);
    }

pub returns-in_err-descend : goal.returns-in_err-descend
returns-in_err-descend g c =
    let p = err_from_is_err_and c.from_residual-in_err-descend.result c.from_residual-in_err-descend.ensures.1 in
    let d = c.in_err-descend.ensures in
    rw (p.1, p.2) record { same = d.same; fits = tt; reads = d.down }

pub returns-in_err-open_room : goal.returns-in_err-open_room
returns-in_err-open_room g c =
    let p = err_from_is_err_and c.from_residual-in_err-open_room.result c.from_residual-in_err-open_room.ensures.1 in
    let d = c.in_ok-descend.ensures in
    let levels = c.args.leaf.levels in
    let place = c.args.leaf.place in
    let P : ℕ → Type 0 = λ n. Opens {X = Unit {0}} (g.S.Sealing.sealed c.descend.new.key.bytes (slot_nonce 0) (head 67 n c.in_ok-row.row.number)) c.in_ok-row.row.offset (c.in_ok-row.row.length + 16) (g.M.Medium.log c.descend.new.self.medium) (g.M.Medium.log c.open_room.new.source.medium) (Err c.in_err-open_room.field-0.0) (take c.in_ok-row.row.length c.open_room.new.room) in
    let ends =
    content-ends g.S.Sealing.sealed levels place c.in_ok-row.row (rows_of c.args.index.now) c.args.leaf.there (sym c.content.ensures ∙ c.in_ok-row.ensures.ok_part) g.met.S.Sealing.long g.met.S.Sealing.apart c.args.key.now.bytes (g.M.Medium.log c.args.source.now.medium) (g.M.Medium.log c.descend.new.self.medium) (g.M.Medium.log c.open_room.new.source.medium) c.descend.new.key.bytes c.descend.new.key.long d.same d.down
    (Unit {0}) c.in_err-open_room.field-0.0 (take c.in_ok-row.row.length c.open_room.new.room) (subst P c.node.ensures c.in_err-open_room.ensures) in
    rw (p.1, p.2) record { same = ends.0; fits = tt; reads = λ first last t f s. fails_ends c.in_err-open_room.field-0.0 (content_of (place_in levels place t)) (ends.1 first last t f s) }

pub returns : goal.returns
returns g c =
    let d = c.in_ok-descend.ensures in
    let levels = c.args.leaf.levels in
    let place = c.args.leaf.place in
    let text = take c.in_ok-row.row.length c.open_room.new.room in
    let room : length c.open_room.new.room ≡ 4112 = c.open_room.auto.room ∙ c.requires in
    let long : length text ≡ c.in_ok-row.row.length = length-take-le c.in_ok-row.row.length c.open_room.new.room (omega arith) in
    let was : g.M.Medium.log c.open_room.new.source.medium ≡ got c.in_ok-row.row.offset (g.S.Sealing.sealed c.descend.new.key.bytes (slot_nonce 0) (head 67 (2 ^ levels + place) c.in_ok-row.row.number) text) ∷ g.M.Medium.log c.descend.new.self.medium =
    c.in_ok-open_room.ensures ∙ ap (λ n. got c.in_ok-row.row.offset (g.S.Sealing.sealed c.descend.new.key.bytes (slot_nonce 0) (head 67 n c.in_ok-row.row.number) text) ∷ g.M.Medium.log c.descend.new.self.medium) c.node.ensures in
    record {
      same = ap changes was ∙ changes-got _ _ _ ∙ d.same;
      fits = omega arith;
      reads =
          content-opened g.S.Sealing.sealed levels place c.in_ok-row.row (rows_of c.args.index.now) c.args.leaf.there (sym c.content.ensures ∙ c.in_ok-row.ensures.ok_part) g.met.S.Sealing.long g.met.S.Sealing.apart c.args.key.now.bytes (g.M.Medium.log c.args.source.now.medium) (g.M.Medium.log c.descend.new.self.medium) (g.M.Medium.log c.open_room.new.source.medium) c.descend.new.key.bytes c.descend.new.key.long d.same d.down text long was;
    }
