use Rattle.std.proofs.Common.{◌≡◌, map, take}
use Rattle.workflow_core.specs.declared.workflow.Job.{Job}
use Rattle.workflow_core.proofs.checking.ids_of.Given as goal

abbrev pub invariant-loop-job : goal.invariant-loop-job
invariant-loop-job l = l.ids.items ≡ map (λ (j : Job). j.id) (take l.job-index l.jobs)
