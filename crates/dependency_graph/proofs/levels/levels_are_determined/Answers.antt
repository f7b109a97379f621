use Rattle.dependency_graph.proofs.LevelsLemmas.{one_levels}
use Rattle.dependency_graph.proofs.levels.levels_are_determined.Goals as goal

pub returns : goal.returns
returns c = λ w g graph kept many one two first second. one_levels w g kept one two graph many first second
