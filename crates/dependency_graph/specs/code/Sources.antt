-- The jobs that make some files, by a table of producers.
use Rattle.std.specs.Prelude.{ℕ, ◌++◌, List, [], ◌∷◌, Option, option_to_list}
use Rattle.values.specs.declared.numbers.JobId.{JobId}
use Rattle.dependency_graph.specs.Graph.{producer_of_file, numbers}

abbrev pub found : List (Option JobId) → List ℕ → List ℕ
found producers [] = []
found producers (f ∷ fs) = numbers (option_to_list (producer_of_file producers f)) ++ found producers fs
