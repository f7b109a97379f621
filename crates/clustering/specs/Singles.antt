-- Kept jobs, each a cluster of its own.
use Rattle.std.specs.Prelude.{List, [], ◌∷◌, map}
use Rattle.values.specs.declared.numbers.JobId.{JobId}

abbrev pub single : JobId → List JobId
single j = j ∷ []

abbrev pub singles : List JobId → List (List JobId)
singles js = map single js
