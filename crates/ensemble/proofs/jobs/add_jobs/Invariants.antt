use Rattle.std.proofs.Common.{◌≡◌, ◌++◌, drop, map}
use Rattle.ensemble.specs.Jobs.{job_of}
use Rattle.ensemble.proofs.jobs.add_jobs.Given as goal

abbrev pub invariant-loop-job : goal.invariant-loop-job
invariant-loop-job l = l.jobs.items ++ map (job_of l.member l.first) (drop l.job-index l.more) ≡ l.fn.jobs.items ++ map (job_of l.member l.first) l.more
