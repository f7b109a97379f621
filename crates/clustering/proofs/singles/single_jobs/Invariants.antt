use Rattle.std.proofs.Common.{◌≡◌, ◌++◌, drop, map}
use Rattle.clustering.specs.Singles.{single, singles}
use Rattle.clustering.proofs.singles.single_jobs.Given as goal

abbrev pub invariant-loop-job : goal.invariant-loop-job
invariant-loop-job l = l.parts.items ++ map single (drop l.job-index l.jobs) ≡ singles l.jobs
