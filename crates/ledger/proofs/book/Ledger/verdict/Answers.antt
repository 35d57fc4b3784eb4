use Rattle.std.proofs.Common.{◌≡◌, ℕ, ◌≤◌, Bool, false, List, get_or, vec_items, Option, unwrap_or, sym, ap, ◌∙◌, arith}
use denote.Bor.{Bor}
use Rattle.std.specs.Option.{option_copied}
use Rattle.std.specs.Slice.{IsItemAt}
use Rattle.ledger.proofs.Playing.{is_open, is-shut}
use Rattle.ledger.proofs.book.Ledger.verdict.Goals as goal

-- Whether a put was seen; one that there was not was not.
is-seen : (seen : List Bool) (put : ℕ) (r : Option (Bor Bool)) → IsItemAt seen put r → get_or seen put false ≡ unwrap_or (option_copied r) false
is-seen seen put r at = let same : put ≤ put = omega arith in sym (at.4 same false)

pub returns-then-unwrap_or : goal.returns-then-unwrap_or
returns-then-unwrap_or c =
    let self = c.args.self.now in
    let read = λ (xs : List Bool). get_or xs c.args.put false in
    is_open self.levels (vec_items self.moves) c.args.put self.placed
    (ap read (sym self.saw ∙ sym c.deref.ensures.value) ∙ is-seen _ c.args.put c.get.result c.get.ensures.lookup ∙ sym (ap (λ r. unwrap_or r false) c.copied.ensures) ∙ sym c.unwrap_or.ensures ∙ c.if-unwrap_or.true)

pub returns-else-unwrap_or : goal.returns-else-unwrap_or
returns-else-unwrap_or c =
    let self = c.args.self.now in
    let read = λ (xs : List Bool). get_or xs c.args.put false in
    is-shut self.levels (vec_items self.moves) c.args.put self.placed
    (ap read (sym self.saw ∙ sym c.deref.ensures.value) ∙ is-seen _ c.args.put c.get.result c.get.ensures.lookup ∙ sym (ap (λ r. unwrap_or r false) c.copied.ensures) ∙ sym c.unwrap_or.ensures ∙ c.if-unwrap_or.false)
