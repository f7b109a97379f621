-- Lines of a file.
use Rattle.std.specs.Prelude.{ℕ, ◌==◌, ◌++◌, List, [], ◌∷◌, map}
use Rattle.std.specs.List.{slice_split}
use Rattle.std.specs.Borrow.{Bor}

-- the part, if it isn't empty
abbrev pub if_not_empty : List ℕ → List (List ℕ)
if_not_empty [] = []
if_not_empty (b ∷ bytes) = (b ∷ bytes) ∷ []

-- the parts but for a last one that is empty
abbrev pub without_empty_last : List (List ℕ) → List (List ℕ)
without_empty_last [] = []
without_empty_last (part ∷ []) = if_not_empty part
without_empty_last (part ∷ next ∷ parts) = part ∷ without_empty_last (next ∷ parts)

-- The parts that end with a line feed, without it. What follows the last one is a line if it isn't empty.
unfoldable pub lines : List ℕ → List (List ℕ)
lines bytes = without_empty_last (slice_split (λ b. b == 10) bytes)

-- each line and a line feed
abbrev pub written : List (List ℕ) → List ℕ
written [] = []
written (line ∷ rest) = line ++ 10 ∷ written rest

-- the bytes of each line
abbrev pub bytes_of : List (Bor (List ℕ)) → List (List ℕ)
bytes_of lines = map (λ line. line.now) lines
