use Rattle.tournament_tree.specs.Tree.{IsEmpty}
use Rattle.tournament_tree.proofs.tree.Tree.empty.Given as goal

abbrev pub invariant-loop-height : goal.invariant-loop-height
invariant-loop-height l = IsEmpty l.rows.items l.count l.height l.width
