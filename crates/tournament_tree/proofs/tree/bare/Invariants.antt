use Rattle.tournament_tree.specs.Tree.{IsBare}
use Rattle.tournament_tree.proofs.tree.bare.Given as goal

abbrev pub invariant-loop-at : goal.invariant-loop-at
invariant-loop-at l = IsBare l.row.items l.at
