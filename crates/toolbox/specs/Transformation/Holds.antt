-- The lines of the input in which a pattern stands.
use Rattle.std.specs.Prelude.{ℕ, ◌==◌, ◌||◌, Bool, List, [], ◌∷◌, length, nat_eq, if◌then◌else◌, Option, Some, None}
use Rattle.std.specs.List.{filter, starts_with}
use Rattle.toolbox.specs.Lines.{lines, written}

-- whether the bytes of a pattern stand somewhere in a line, one after the other
abbrev pub stands_in : List ℕ → List ℕ → Bool
stands_in pattern [] = length pattern == 0
stands_in pattern (b ∷ bytes) = starts_with nat_eq (b ∷ bytes) pattern || stands_in pattern bytes

-- a pattern is the first argument, and not empty
abbrev pub holding : List (List ℕ) → List ℕ → Option (List ℕ)
holding [] input = None
holding (pattern ∷ args) input = if length pattern == 0 then None
    else Some (written (filter (stands_in pattern) (lines input)))
