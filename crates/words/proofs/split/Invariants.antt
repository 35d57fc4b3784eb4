use Rattle.std.proofs.Common.{◌≡◌, ◌++◌, map, length}
use Rattle.words.specs.Words.{words_in, words_of}
use Rattle.words.proofs.split.Given as goal

abbrev pub invariant-loop-word : goal.invariant-loop-word
invariant-loop-word l = map (λ w. w.now) l.words.items ++ words_in l.rest ≡ words_of l.line

abbrev pub decreases-loop-word : goal.decreases-loop-word
decreases-loop-word l = length l.rest
