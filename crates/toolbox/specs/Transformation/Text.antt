-- The arguments as a line.
use Rattle.std.specs.Prelude.{ℕ, ◌==◌, ◌++◌, List, [], ◌∷◌, length, if◌then◌else◌, Option, Some, None}

-- the words, a space before each
abbrev pub spaced : List (List ℕ) → List ℕ
spaced [] = []
spaced (word ∷ words) = (32 ∷ word) ++ spaced words

-- the words with one space between
abbrev pub sentence : List (List ℕ) → List ℕ
sentence [] = []
sentence (word ∷ words) = word ++ spaced words

abbrev pub text : List (List ℕ) → List (List ℕ) → Option (List ℕ)
text args ins = if length ins == 0 then Some (sentence args ++ 10 ∷ []) else None
