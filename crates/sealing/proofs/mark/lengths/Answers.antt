use Rattle.std.proofs.Common.{replicate, refl}
use Rattle.sealing.proofs.Laws.{two_words}
use Rattle.sealing.proofs.mark.lengths.Goals as goal

pub returns : goal.returns
returns c = two_words (replicate 16 0) c.put_word.new.out c.put_word-2.new.out c.args.marked c.args.sealed refl c.put_word.ensures c.put_word-2.ensures
