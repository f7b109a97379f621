use Rattle.std.proofs.Common.{◌≡◌, take}
use Rattle.dependency_graph.specs.Levels.{above_all}
use Rattle.dependency_graph.proofs.levels.above_all.Given as goal

abbrev pub invariant-loop-parent : goal.invariant-loop-parent
invariant-loop-parent l = l.greatest ≡ above_all l.kept l.levels (take l.parent-index l.parents)
