-- Which files would have to be made.
use Rattle.std.specs.Prelude.{ℕ, ◌||◌, Bool, not, List}
use Rattle.workflow_core.specs.declared.workflow.Workflow.{Workflow}
use Rattle.replica_catalog.specs.declared.catalog.Replica.{Replica}
use Rattle.replica_catalog.specs.Lookup.{is_registered}
use Rattle.dependency_graph.specs.Built.{workflow_file_name}

-- A produced file that would have to be made: it isn't registered, or registrations don't count.
abbrev pub is_absent : List Replica → Bool → List ℕ → Bool
is_absent es force name = force || not (is_registered es name)

-- the same by number
abbrev pub absent_in : Workflow → List Replica → Bool → ℕ → Bool
absent_in w es force f = is_absent es force (workflow_file_name w f)
