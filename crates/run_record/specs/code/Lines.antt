-- The lines of a text.
use Rattle.std.specs.Prelude.{ℕ, suc, if◌then◌else◌, List, [], ◌∷◌, nat_eq, take}
use Rattle.std.specs.List.{onto_first}

-- the lines of a text: it is cut after each line feed, and a last piece without one is a line
abbrev pub lines : List ℕ → List (List ℕ)
lines [] = []
lines (b ∷ bs) = if nat_eq b 10 then (b ∷ []) ∷ lines bs else onto_first b (lines bs)

-- the length of a text's first line, with its line feed
abbrev pub line_length : List ℕ → ℕ
line_length [] = 0
line_length (b ∷ bs) = if nat_eq b 10 then 1 else suc (line_length bs)

-- a text's first line, with its line feed
abbrev pub first_line : List ℕ → List ℕ
first_line text = take (line_length text) text
