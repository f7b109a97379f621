-- The lines of the input after the first n.
use Rattle.std.specs.Prelude.{ℕ, List, drop, Option}
use Rattle.std.specs.Option.{option_map}
use Rattle.toolbox.specs.Lines.{lines, written}
use Rattle.toolbox.specs.Number.{first_number}

abbrev pub dropped : List (List ℕ) → List ℕ → Option (List ℕ)
dropped args input = option_map (λ n. written (drop n (lines input))) (first_number args)
