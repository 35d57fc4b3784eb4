-- What was prepared is of the tree that the chip's key belongs to.
use Rattle.std.proofs.Common.{◌≡◌, ℕ, ◌-◌, ◌^◌, ◌<◌, List, length, Some, Ok, Err, vec_items, refl, subst}
use Rattle.std.proofs.lemmas.Result.{err_from_is_err_and}
use Rattle.change.specs.Nodes.{bytes_in}
use Rattle.descent.specs.Path.{OfShown}
use Rattle.forgetting.specs.Change.{Numbered}
use Rattle.index.specs.Noted.{rows_of}
use Rattle.storage.specs.declared.seat.Seat.{Seat}
use Rattle.storage.specs.declared.seat.Condition.TheVariants.{Ready}
use Rattle.storage.specs.Seats.{State, chip_in, given_in, Finishes}
use Rattle.change.specs.Nodes.{content_in}
use Rattle.storage.specs.Prepares.{Decides, Prepares}
use Rattle.storage.specs.States.{state_of}
use Rattle.storage.proofs.Changing.{not_prepared, outcome}
use Rattle.storage.proofs.state.Store.change.Goals as goal

ready : {C : Type 0} → (holds : C → Numbered) (seat : Seat C) → seat.condition ≡ Ready → chip_in holds seat ≡ Some (holds seat.chip)
ready holds seat e = rw e refl

pub returns-in_err-number : goal.returns-in_err-number
returns-in_err-number g c =
    let p = err_from_is_err_and c.from_residual-in_err-number.result c.from_residual-in_err-number.ensures.1 in
    let w = c.in_err-number.ensures in
    let at = c.in_ok-leaf.ensures in
    let self = c.args.self.now in
    let chip : Numbered = g.C.Chip.holds self.seat.chip in
    let is : chip_in g.C.Chip.holds self.seat ≡ Some chip = ready g.C.Chip.holds self.seat c.in_ok-ready.ensures in
    let log = g.M.Medium.log c.prepare.new.source.medium in
    let before : State = state_of g.M.Medium.log g.C.Chip.holds g.C.Chip.given self c.args.keys.now in
    let after : State = record { log = log; rows = rows_of self.index; end = self.end; chip = chip_in g.C.Chip.holds self.seat; given = given_in g.C.Chip.given self.seat; keys = c.args.keys.now } in
    let P : ℕ → ℕ → List ℕ → ℕ → Type 0 = λ d q k n. OfShown g.S.Sealing.sealed d (rows_of self.index) k (g.M.Medium.log self.source.medium) log (Prepares g.S.Sealing.sealed d q n (content_in c.args.content) c.args.keys.now (Err c.in_err-number.field-0.0) (vec_items c.prepare.new.out)) in
    let prepared = subst (λ q. P self.levels q chip.bytes chip.number) at.1 (subst (λ d. P d c.in_ok-leaf.leaf.place chip.bytes chip.number) at.0 (subst (λ k. P c.in_ok-leaf.leaf.levels c.in_ok-leaf.leaf.place k chip.number) c.key.ensures (subst (λ n. P c.in_ok-leaf.leaf.levels c.in_ok-leaf.leaf.place c.key.result.now.bytes n) c.number-last.ensures w.prepares))) in
    rw (p.1, p.2) record { levels = refl; changes = not_prepared (Unit {0}) g.S.Sealing.sealed self.levels c.args.place (content_in c.args.content) before after chip c.in_err-number.field-0.0 (vec_items c.prepare.new.out) is w.decides (record { log = w.same; rows = refl; end = refl; chip = refl; given = refl; keys = refl }) prepared }

pub returns : goal.returns
returns g c =
    let w = c.in_ok-number.ensures in
    let at = c.in_ok-leaf.ensures in
    let leaf = c.in_ok-leaf.leaf in
    let self = c.args.self.now in
    let chip : Numbered = g.C.Chip.holds self.seat.chip in
    let is : chip_in g.C.Chip.holds self.seat ≡ Some chip = ready g.C.Chip.holds self.seat c.in_ok-ready.ensures in
    let before : State = state_of g.M.Medium.log g.C.Chip.holds g.C.Chip.given self c.args.keys.now in
    let middle = g.M.Medium.log c.prepare.new.source.medium in
    let after : State = state_of g.M.Medium.log g.C.Chip.holds g.C.Chip.given c.finish.new.self c.finish.new.keys in
    let number = c.in_ok-number.number in
    let bs = vec_items c.prepare.new.out in
    let D : ℕ → ℕ → ℕ → Type 0 = λ d q n. Decides d q n (content_in c.args.content) (length c.args.keys.now) (Ok number) in
    let d = subst (λ q. D self.levels q chip.number) at.1 (subst (λ d. D d leaf.place chip.number) at.0 (subst (λ n. D leaf.levels leaf.place n) c.number-last.ensures w.decides)) in
    let P : ℕ → ℕ → List ℕ → ℕ → Type 0 = λ d q k n. OfShown g.S.Sealing.sealed d (rows_of self.index) k (g.M.Medium.log self.source.medium) middle (Prepares g.S.Sealing.sealed d q n (content_in c.args.content) c.args.keys.now (Ok number) bs) in
    let prepared = subst (λ q. P self.levels q chip.bytes chip.number) at.1 (subst (λ d. P d leaf.place chip.bytes chip.number) at.0 (subst (λ k. P leaf.levels leaf.place k chip.number) c.key.ensures (subst (λ n. P leaf.levels leaf.place c.key.result.now.bytes n) c.number-last.ensures w.prepares))) in
    let F : ℕ → Type 0 = λ n. Finishes self.levels bs (record { number = number; bytes = bytes_in c.args.keys.now (number - n - 1) }) (record { log = middle; rows = rows_of self.index; end = self.end; chip = chip_in g.C.Chip.holds self.seat; given = given_in g.C.Chip.given self.seat; keys = c.args.keys.now }) c.finish.result after in
    let f = subst F c.number-last.ensures c.finish.ensures.finishes in
    let there = subst (λ q. q < 2 ^ self.levels) at.1 (subst (λ d. leaf.place < 2 ^ d) at.0 leaf.there) in
    record {
      levels = c.finish.ensures.levels;
      changes = outcome g.S.Sealing.sealed g.met.S.Sealing.long self.levels c.args.place number (content_in c.args.content) before after middle chip bs self.some self.few there is w.same d.0 d.1 d.2 prepared (Unit {0}) c.finish.result f;
    }
