use Rattle.std.proofs.Common.{◌≡◌, ◌++◌, drop}
use Rattle.clustering.specs.code.Cycles.{other_parts}
use Rattle.clustering.proofs.cycles.push_other_parts.Given as goal

abbrev pub invariant-loop-job : goal.invariant-loop-job
invariant-loop-job l = l.sources.items ++ other_parts l.holders l.part (drop l.job-index l.jobs) ≡ l.fn.sources.items ++ other_parts l.holders l.part l.jobs
