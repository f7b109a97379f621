-- The outputs that are to be delivered.
use Rattle.std.specs.Prelude.{ℕ, ◌==◌, ◌&&◌, Bool, not}
use Rattle.std.specs.List.{list_any}
use Rattle.workflow_core.specs.declared.workflow.Job.{Job}
use Rattle.workflow_core.specs.declared.workflow.Output.{Output}

-- an output of the job has another file, to be delivered
abbrev pub requests_other : ℕ → Job → Bool
requests_other f j = list_any (λ (o : Output). o.stage_out && not (o.file.0 == f)) j.outputs
