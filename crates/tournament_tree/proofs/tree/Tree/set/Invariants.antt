use Rattle.std.proofs.Common.{◌≡◌, ℕ, length}
use Rattle.tournament_tree.specs.Tree.{entry, row, halved}
use Rattle.tournament_tree.proofs.TreeLemmas.{IsTreeBut}
use Rattle.tournament_tree.proofs.tree.Tree.set.Given as goal

abbrev pub invariant-loop-below : goal.invariant-loop-below
invariant-loop-below l = IsTreeBut l.self.rows.items l.at l.below × (l.place ≡ halved l.below l.at) × (length l.self.rows.items ≡ length l.initial.self.rows.items) × (length (row l.self.rows.items 0) ≡ length (row l.initial.self.rows.items 0)) × ((i : ℕ) → entry l.self.rows.items 0 i ≡ entry l.initial.self.rows.items 0 i)
