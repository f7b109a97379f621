-- The line of the mosaic.
use Rattle.std.proofs.Common.{◌≡◌, ℕ, List, [], ◌++◌, append_assoc}
use Rattle.std.specs.Prelude.{codes}

-- a line of a number and a word behind a first one
pub number_and_word : (first number word : List ℕ) → first ++ ((codes " " ++ (number ++ (codes " " ++ (word ++ [])))) ++ codes "\n") ≡ ((((first ++ codes " ") ++ number) ++ codes " ") ++ word) ++ codes "\n"
number_and_word first number word = simp append_assoc
