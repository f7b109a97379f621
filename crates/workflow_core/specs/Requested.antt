-- The files of a workflow that are requested: those that some job makes to be delivered.
use Rattle.std.specs.Prelude.{ℕ, ◌==◌, ◌&&◌, Bool}
use Rattle.std.specs.List.{list_any}
use Rattle.workflow_core.specs.declared.workflow.Workflow.{Workflow}
use Rattle.workflow_core.specs.declared.workflow.Job.{Job}
use Rattle.workflow_core.specs.declared.workflow.Output.{Output}

-- an output of the job has the file, to be delivered
abbrev pub requests : ℕ → Job → Bool
requests f j = list_any (λ (o : Output). o.stage_out && (o.file.0 == f)) j.outputs

abbrev pub is_requested : Workflow → ℕ → Bool
is_requested w f = list_any (requests f) w.jobs
