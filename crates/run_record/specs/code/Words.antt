-- The words of a line.
use Rattle.std.specs.Prelude.{ℕ, ◌==◌, List, [], Option, Some, None, slice_index_or}
use Rattle.std.specs.List.{slice_split}

-- the parts of a line between its spaces
abbrev pub words_of : List ℕ → List (List ℕ)
words_of text = slice_split (λ (b : ℕ). b == 32) text

-- the words of what stands after a space, and none where nothing does
abbrev pub words_in : Option (List ℕ) → List (List ℕ)
words_in (Some text) = words_of text
words_in None = []

-- the word at a place, and none past the end
abbrev pub word_at : List (List ℕ) → ℕ → List ℕ
word_at words k = slice_index_or words k []
