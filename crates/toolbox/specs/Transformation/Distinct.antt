-- The lines of the input without those that occurred before.
use Rattle.std.specs.Prelude.{ℕ, ◌++◌, Bool, List, [], ◌∷◌, if◌then◌else◌}
use Rattle.std.specs.List.{list_any}
use Rattle.std.specs.Str.{bytes_eq}
use Rattle.toolbox.specs.Lines.{lines, written}

-- whether a line is one of these
abbrev pub is_among : List (List ℕ) → List ℕ → Bool
is_among lines line = list_any (bytes_eq line) lines

-- of lines that come after others, those that are new
abbrev pub new_lines : List (List ℕ) → List (List ℕ) → List (List ℕ)
new_lines before [] = []
new_lines before (line ∷ rest) =
    if is_among before line then new_lines (before ++ line ∷ []) rest
    else line ∷ new_lines (before ++ line ∷ []) rest

abbrev pub distinct : List ℕ → List ℕ
distinct input = written (new_lines [] (lines input))
