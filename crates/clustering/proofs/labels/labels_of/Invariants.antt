use Rattle.std.proofs.Common.{◌≡◌, ◌++◌, drop, map}
use Rattle.values.specs.declared.numbers.JobId.{JobId}
use Rattle.clustering.specs.code.Labels.{label_key}
use Rattle.clustering.proofs.labels.labels_of.Given as goal

abbrev pub invariant-loop-job : goal.invariant-loop-job
invariant-loop-job l = l.keyed.items ++ map (λ (j : JobId). (j, label_key l.basis j)) (drop l.job-index l.jobs) ≡ map (λ (j : JobId). (j, label_key l.basis j)) l.jobs
