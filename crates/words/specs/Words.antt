-- The words of a line. Lines and words are lists of bytes.
use Rattle.std.specs.Prelude.{ℕ, ◌-◌, Bool, not, cond, ◌||◌, List, length, take, ◌==◌, slice_index}
use Rattle.std.specs.List.{filter, slice_split}

-- A space or a tab.
abbrev pub blank : ℕ → Bool
blank c = c == 32 || c == 9

-- A word, and not the nothing that is between two blanks.
abbrev pub filled : List ℕ → Bool
filled word = not (length word == 0)

-- The words of a text.
abbrev pub words_in : List ℕ → List (List ℕ)
words_in text = filter filled (slice_split blank text)

-- A line without a carriage return at its end.
abbrev pub bare : List ℕ → List ℕ
bare line = cond (slice_index line (length line - 1) == 13) (take (length line - 1) line) line

-- The words of a line: what stands between blanks.
abbrev pub words_of : List ℕ → List (List ℕ)
words_of line = words_in (bare line)
