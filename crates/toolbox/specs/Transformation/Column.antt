-- One column of the input.
use Rattle.std.specs.Prelude.{ℕ, ◌-◌, ◌==◌, List, [], map, if◌then◌else◌, Option, Some, None, slice_index_or}
use Rattle.std.specs.List.{slice_split}
use Rattle.std.specs.Option.{option_and_then}
use Rattle.toolbox.specs.Lines.{lines, written}
use Rattle.toolbox.specs.Number.{first_number}

-- the c-th piece of a line between tabs, from 1, or nothing
abbrev pub piece : ℕ → List ℕ → List ℕ
piece c line = slice_index_or (slice_split (λ b. b == 9) line) (c - 1) []

abbrev pub column : List (List ℕ) → List ℕ → Option (List ℕ)
column args input = option_and_then (λ c. if c == 0 then None
    else Some (written (map (piece c) (lines input)))) (first_number args)
