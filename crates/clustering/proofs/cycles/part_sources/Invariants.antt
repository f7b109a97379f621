use Rattle.std.proofs.Common.{◌≡◌, ◌++◌, drop}
use Rattle.clustering.specs.code.Cycles.{part_sources}
use Rattle.clustering.proofs.cycles.part_sources.Given as goal

abbrev pub invariant-loop-job : goal.invariant-loop-job
invariant-loop-job l = l.sources.items ++ part_sources l.holders l.graph.parents l.part (drop l.job-index l.jobs) ≡ part_sources l.holders l.graph.parents l.part l.jobs
