-- The sum of the lines of the input, each of which is a number.
use Rattle.std.specs.Prelude.{ℕ, ◌++◌, List, [], ◌∷◌, codes, Option, Some}
use Rattle.std.specs.Fmt.{decimal}
use Rattle.std.specs.List.{sum}
use Rattle.std.specs.Option.{option_and_then, option_map}
use Rattle.toolbox.specs.Lines.{lines}
use Rattle.toolbox.specs.Number.{number_of}

-- the number of each line, where all are numbers
abbrev pub numbers : List (List ℕ) → Option (List ℕ)
numbers [] = Some []
numbers (line ∷ rest) = option_and_then (λ n. option_map (λ ns. n ∷ ns) (numbers rest)) (number_of line)

abbrev pub total : List ℕ → Option (List ℕ)
total input = option_map (λ ns. decimal (sum ns) ++ codes "\n") (numbers (lines input))
