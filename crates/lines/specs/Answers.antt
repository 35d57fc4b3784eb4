-- Which lines have an answer.
use Rattle.std.specs.Prelude.{ℕ, Bool, false, not, List, [], ◌∷◌, ◌==◌}
use Rattle.words.specs.Words.{words_of}

-- A word of a comment begins with '#'.
abbrev pub remarks : List ℕ → Bool
remarks [] = false
remarks (c ∷ word) = c == 35

-- A line asks unless it is blank or a comment.
abbrev pub asked : List (List ℕ) → Bool
asked [] = false
asked (word ∷ fields) = not (remarks word)

abbrev pub asks : List ℕ → Bool
asks line = asked (words_of line)
