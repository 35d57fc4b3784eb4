use Rattle.std.proofs.Common.{◌≡◌, ℕ, ◌^◌, ◌<◌, List, length, get_or, None, vec_items, Option, sym, ap, ◌∙◌, arith}
use Rattle.ledger.specs.Book.{after}
use Rattle.ledger.proofs.Keeping.{sized, any-default}
use Rattle.ledger.proofs.Playing.{holds_then}
use Rattle.ledger.proofs.book.Ledger.standing.Goals as goal

pub index-requires : goal.index-requires
index-requires c =
    let self = c.args.self.now in
    let size = sized self.levels (vec_items self.moves) self.placed (vec_items self.standing) self.stands in
    let len = self.standing.ok.0 in omega arith

pub returns : goal.returns
returns c =
    let self = c.args.self.now in
    let here : c.args.place < 2 ^ self.levels = omega arith in
    let size = sized self.levels (vec_items self.moves) self.placed (vec_items self.standing) self.stands in
    let within : c.args.place < length (vec_items self.standing) = omega arith in
    let is : c.index.result.now ≡ get_or (after self.levels (vec_items self.moves)).standing c.args.place None =
    c.index.ensures ∙ any-default (vec_items self.standing) c.args.place c.index.result.now None within ∙ ap (λ (x : List (Option ℕ)). get_or x c.args.place None) self.stands in
    (here, λ z keys. holds_then self.levels (vec_items self.moves) c.args.place self.placed here z keys ∙ sym is)
