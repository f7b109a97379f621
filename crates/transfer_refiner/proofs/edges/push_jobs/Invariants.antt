use Rattle.std.proofs.Common.{◌≡◌, ◌++◌, drop}
use Rattle.plan_core.specs.Words.{job_numbers}
use Rattle.transfer_refiner.specs.code.Edges.{fan}
use Rattle.transfer_refiner.proofs.edges.push_jobs.Given as goal

abbrev pub invariant-loop-job : goal.invariant-loop-job
invariant-loop-job l = l.edges.items ++ fan l.from (job_numbers (drop l.job-index l.jobs)) ≡ l.fn.edges.items ++ fan l.from (job_numbers l.jobs)
