-- The number of a name in a list of names: the place of its first appearance.
use Rattle.std.specs.Prelude.{ℕ, List}
use Rattle.std.specs.Str.{bytes_eq}
use Rattle.std.specs.List.{position_or_len}

-- a name's place among the distinct names
abbrev pub number : List (List ℕ) → List ℕ → ℕ
number names n = position_or_len (bytes_eq n) names
