-- What the building of a graph answers.
use Rattle.std.specs.Prelude.{ℕ, List, [], slice_index_or}
use Rattle.workflow_core.specs.declared.workflow.Workflow.{Workflow}

-- a file's name, and a job's id, by number
abbrev pub workflow_file_name : Workflow → ℕ → List ℕ
workflow_file_name w f = slice_index_or w.files f []
