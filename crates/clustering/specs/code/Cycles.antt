-- A cycle of clusters, named by their first jobs.
use Rattle.std.specs.Prelude.{◌≡◌, ℕ, suc, ◌++◌, if◌then◌else◌, nat_eq, List, [], ◌∷◌, map, Option, Some, None}
use Rattle.values.specs.declared.numbers.JobId.{JobId}
use Rattle.workflow_core.specs.declared.workflow.Workflow.{Workflow}
use Rattle.digraph.specs.code.Cycle.{IsNamedCycle}
use Rattle.dependency_graph.specs.code.Built.{id_of}
use Rattle.dependency_graph.specs.Graph.{jobs_at}
use Rattle.clustering.specs.code.Condition.{leads}
use Rattle.clustering.specs.code.Labels.{first_of, holder_in}

abbrev pub id_in : Workflow → Option JobId → List ℕ
id_in w None = []
id_in w (Some j) = id_of w j.0

-- the id of the first job of a part
abbrev pub first_id : Workflow → List (List JobId) → ℕ → List ℕ
first_id w ps c = id_in w (first_of ps (Some c))

-- the ids of the named cycle of these parts
pub record IsPartCycle (w : Workflow) (ps : List (List JobId)) (ids : List (List ℕ)) : Type 0 where
  pub parts : List ℕ
  pub cycle : IsNamedCycle (leads w ps) parts
  pub ids_are : ids ≡ map (first_id w ps) parts

-- ---- the parts before a part, by a table that says which part holds a job

abbrev pub unless_part : ℕ → Option ℕ → List ℕ → List ℕ
unless_part part None ns = ns
unless_part part (Some h) ns = if nat_eq h part then ns else h ∷ ns

-- the parts other than this one that hold some jobs
abbrev pub other_parts : List (Option ℕ) → ℕ → List JobId → List ℕ
other_parts table part [] = []
other_parts table part (j ∷ js) = unless_part part (holder_in table j) (other_parts table part js)

-- the parts other than this one that hold parents of some jobs
abbrev pub part_sources : List (Option ℕ) → List (List JobId) → ℕ → List JobId → List ℕ
part_sources table parents part [] = []
part_sources table parents part (j ∷ js) = other_parts table part (jobs_at parents j.0)
    ++ part_sources table parents part js

-- the same for each part, from this number on
abbrev pub sources_from : List (Option ℕ) → List (List JobId) → ℕ → List (List JobId) → List (List ℕ)
sources_from table parents n [] = []
sources_from table parents n (p ∷ ps) = part_sources table parents n p ∷ sources_from table parents (suc n) ps
