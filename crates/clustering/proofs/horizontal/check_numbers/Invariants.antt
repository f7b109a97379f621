use Rattle.std.proofs.Common.{◌≡◌, drop}
use Rattle.clustering.specs.code.Basis.{first_bad}
use Rattle.clustering.proofs.horizontal.check_numbers.Given as goal

abbrev pub invariant-loop-job : goal.invariant-loop-job
invariant-loop-job l = first_bad l.basis (drop l.job-index l.jobs) ≡ first_bad l.basis l.jobs
