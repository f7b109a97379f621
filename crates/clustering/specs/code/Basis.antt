-- Beside `specs/Basis.antt`: what the code's own contracts say.
use Rattle.std.specs.Prelude.{ℕ, List, [], ◌∷◌, Option, None, option_and_then, option_map, slice_get}
use Rattle.std.specs.Option.{option_or}
use Rattle.values.specs.declared.numbers.JobId.{JobId}
use Rattle.workflow_core.specs.declared.workflow.Transformation.{Transformation}
use Rattle.dependency_graph.specs.Levels.{level}
use Rattle.clustering.specs.code.Numbers.{bad_key}
use Rattle.clustering.specs.Basis.{ClusteringInput, site_at, transformation_at}

abbrev pub Group : Type 0
Group = ℕ × Option ℕ × Option Transformation

abbrev pub group_of : ClusteringInput → JobId → Group
group_of c j = (level c.levels j.0, site_at c j.0, transformation_at c j.0)

-- the key of a job's first bad number, and the first job that has one
abbrev pub bad_at : ClusteringInput → JobId → Option (List ℕ)
bad_at c j = option_and_then (bad_key c.entries) (slice_get c.jobs j.0)

unfoldable pub first_bad : ClusteringInput → List JobId → Option (JobId × List ℕ)
first_bad c [] = None
first_bad c (j ∷ js) = option_or (option_map (λ (key : List ℕ). (j, key)) (bad_at c j)) (first_bad c js)
