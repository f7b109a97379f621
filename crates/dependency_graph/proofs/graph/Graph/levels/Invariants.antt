use Rattle.dependency_graph.proofs.LevelsLemmas.{IsLeveled}
use Rattle.dependency_graph.proofs.graph.Graph.levels.Given as goal

abbrev pub invariant-loop-job : goal.invariant-loop-job
invariant-loop-job l = IsLeveled l.self l.kept l.levels.items l.job-index
