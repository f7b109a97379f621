use Rattle.std.proofs.Common.{subst, sym}
use Rattle.workflow_core.specs.declared.workflow.Job.{Job}
use Rattle.ensemble.specs.Jobs.{FitsAfter}
use Rattle.ensemble.proofs.jobs.add_jobs.Goals as goal

pub job_of-requires : goal.job_of-requires
job_of-requires c = subst (λ (j : Job). FitsAfter c.args.first j) (sym c.job-item.is) (c.requires c.loop-job.job-index c.job-item.result c.loop-job-test.true)
