use Rattle.std.proofs.Common.{vec_items, ◌∙◌}
use Rattle.ledger.proofs.Books.{counted}
use Rattle.ledger.proofs.book.Ledger.puts.Goals as goal

pub returns : goal.returns
returns c =
    let self = c.args.self.now in
    c.len.ensures ∙ self.seen.ok.0 ∙ counted self.levels (vec_items self.moves) (vec_items self.seen) self.saw
