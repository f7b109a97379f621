use Rattle.std.proofs.Common.{◌≡◌, ◌++◌, drop, map}
use Rattle.std.specs.Prelude.{slice_index_or}
use Rattle.values.specs.declared.numbers.JobId.{JobId}
use Rattle.clustering.specs.code.Basis.{group_of}
use Rattle.clustering.proofs.runs.runs_of.Given as goal

abbrev pub invariant-loop-job : goal.invariant-loop-job
invariant-loop-job l =
    l.keyed.items ++ map (λ (j : JobId). (j, (group_of l.basis j, slice_index_or l.runs.items j.0 0))) (drop l.job-index l.jobs)
    ≡ map (λ (j : JobId). (j, (group_of l.basis j, slice_index_or l.runs.items j.0 0))) l.jobs
