use Rattle.std.proofs.Common.{◌≡◌}
use Rattle.dependency_graph.specs.code.Ranking.{leveled}
use Rattle.dependency_graph.proofs.ranking.leveled.Given as goal

abbrev pub invariant-loop-job : goal.invariant-loop-job
invariant-loop-job l = l.jobs.items ≡ leveled l.kept l.levels l.job
