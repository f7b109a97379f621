-- A flag for each file.
use Rattle.std.specs.Prelude.{ℕ, ◌==◌, ◌&&◌, Bool, false, List, slice_index_or}
use Rattle.std.specs.List.{list_any}
use Rattle.values.specs.declared.numbers.FileId.{FileId}
use Rattle.workflow_core.specs.declared.workflow.Job.{Job}
use Rattle.workflow_core.specs.declared.workflow.Output.{Output}

abbrev pub is_set : List Bool → ℕ → Bool
is_set flags f = slice_index_or flags f false

-- one of the job's inputs is the file
abbrev pub reads : ℕ → Job → Bool
reads f j = list_any (λ (g : FileId). g.0 == f) j.inputs

-- one of the job's outputs has both flags
abbrev pub has_both : List Bool → List Bool → Job → Bool
has_both one two j = list_any (λ (o : Output). is_set one o.file.0 && is_set two o.file.0) j.outputs
