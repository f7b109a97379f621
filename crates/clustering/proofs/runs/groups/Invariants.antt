use Rattle.std.proofs.Common.{◌≡◌, ◌++◌, drop, map}
use Rattle.values.specs.declared.numbers.JobId.{JobId}
use Rattle.clustering.specs.code.Basis.{group_of}
use Rattle.clustering.proofs.runs.groups.Given as goal

abbrev pub invariant-loop-job : goal.invariant-loop-job
invariant-loop-job l = l.keyed.items ++ map (λ (j : JobId). (j, group_of l.basis j)) (drop l.job-index l.jobs) ≡ map (λ (j : JobId). (j, group_of l.basis j)) l.jobs
