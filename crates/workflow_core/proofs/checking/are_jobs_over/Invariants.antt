use Rattle.std.proofs.Common.{◌≡◌, drop}
use Rattle.std.specs.List.{list_all}
use Rattle.workflow_core.specs.code.Checking.{is_job_over}
use Rattle.workflow_core.proofs.checking.are_jobs_over.Given as goal

abbrev pub invariant-loop-job : goal.invariant-loop-job
invariant-loop-job l = list_all (is_job_over l.files) (drop l.job-index l.jobs) ≡ list_all (is_job_over l.files) l.jobs
