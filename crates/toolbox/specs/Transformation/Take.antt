-- The first n lines of the input.
use Rattle.std.specs.Prelude.{ℕ, List, take, Option}
use Rattle.std.specs.Option.{option_map}
use Rattle.toolbox.specs.Lines.{lines, written}
use Rattle.toolbox.specs.Number.{first_number}

abbrev pub taken : List (List ℕ) → List ℕ → Option (List ℕ)
taken args input = option_map (λ n. written (take n (lines input))) (first_number args)
