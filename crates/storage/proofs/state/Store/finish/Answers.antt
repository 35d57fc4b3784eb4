-- The chip's new key is key i of those that were handed in.
use Rattle.std.proofs.Common.{◌≡◌, ℕ, ◌+◌, List, length, get_or, vec_items, Ok, Err, sym, refl, ap, ◌∙◌, subst, arith}
use Rattle.std.proofs.lemmas.Result.{err_from_is_err_and}
use Rattle.sealing.specs.declared.key.Key.{Key}
use Rattle.change.specs.Nodes.{bytes_in}
use Rattle.change.proofs.Reading.{bytes_read}
use Rattle.index.specs.Noted.{rows_of, scanned}
use Rattle.descent.specs.declared.failure.Failure.{Failure}
use Rattle.storage.specs.Seats.{chip_in, given_in, Commits, Finishes, State}
use Rattle.storage.specs.States.{state_of}
use Rattle.storage.proofs.state.Store.finish.Goals as goal

pub returns-in_err-done : goal.returns-in_err-done
returns-in_err-done g c =
    let p = err_from_is_err_and c.from_residual.result c.from_residual.ensures.1 in
    let self = c.args.self.now in
    let after = c.commit-done.new.seat in
    let log = g.M.Medium.log c.commit-done.new.medium in
    let key : (get_or c.args.keys.now c.args.i c.index-keys-i.result).bytes ≡ bytes_in c.args.keys.now c.args.i =
    ap (λ (k : Key). k.bytes) (sym c.index-keys-i.is) ∙ sym (bytes_read c.args.keys.now c.args.i c.index-keys-i.result (omega arith) c.index-keys-i.is) in
    let P : List ℕ → List ℕ → Type 0 = λ r b. Commits {X = Unit {0}} g.C.Chip.holds g.C.Chip.given r (record { number = c.args.number; bytes = b }) (g.M.Medium.log self.source.medium) log self.seat (Err c.in_err-done.field-0.0) after in
    let d = subst (λ r. P r (bytes_in c.args.keys.now c.args.i)) c.deref.ensures.value (subst (P c.deref.result.now) key c.in_err-done.ensures) in
    let before : State = state_of g.M.Medium.log g.C.Chip.holds g.C.Chip.given self c.args.keys.now in
    let halted : State = record { log = log; rows = rows_of self.index; end = self.end; chip = chip_in g.C.Chip.holds after; given = given_in g.C.Chip.given after; keys = c.wipe_keys.new.keys } in
    let Q : Failure → Type 0 = λ why. Finishes {X = Unit {0}} self.levels (vec_items self.records) (record { number = c.args.number; bytes = bytes_in c.args.keys.now c.args.i }) before (Err why) halted in
    rw (p.1, p.2) record { levels = refl; finishes = subst Q (sym d.0) (record { breaks = d.2; chip = d.1; rows = refl; end = refl; wiped = c.wipe_keys.ensures }) }

pub returns : goal.returns
returns g c =
    let self = c.args.self.now in
    let key : (get_or c.args.keys.now c.args.i c.index-keys-i.result).bytes ≡ bytes_in c.args.keys.now c.args.i =
    ap (λ (k : Key). k.bytes) (sym c.index-keys-i.is) ∙ sym (bytes_read c.args.keys.now c.args.i c.index-keys-i.result (omega arith) c.index-keys-i.is) in
    let P : List ℕ → List ℕ → Type 0 = λ r b. Commits {X = Unit {0}} g.C.Chip.holds g.C.Chip.given r (record { number = c.args.number; bytes = b }) (g.M.Medium.log self.source.medium) (g.M.Medium.log c.commit-done.new.medium) self.seat (Ok tt) c.commit-done.new.seat in
    let d = subst (λ r. P r (bytes_in c.args.keys.now c.args.i)) c.deref.ensures.value (subst (P c.deref.result.now) key c.in_ok-done.ensures) in
    record {
      levels = refl;
      finishes = record { lasts = d.1; chip = d.0; rows = c.note_all.ensures ∙ ap (λ b. scanned self.levels (length b) self.end b (rows_of self.index)) c.deref-2.ensures.value; end = ap (λ n. self.end + n) (c.len-count.ensures ∙ self.records.ok.0); wiped = c.wipe_keys.ensures };
    }
