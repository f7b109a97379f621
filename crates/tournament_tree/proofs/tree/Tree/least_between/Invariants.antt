use Rattle.std.proofs.Common.{◌≡◌, ◌≤◌}
use Rattle.tournament_tree.specs.Tree.{better, entry, halved, least_from}
use Rattle.tournament_tree.proofs.tree.Tree.least_between.Given as goal

abbrev pub invariant-loop-height : goal.invariant-loop-height
invariant-loop-height l = (l.high ≡ halved l.height l.to) × (l.low ≤ 200000) × (least_from (entry l.self.rows.items 0) l.from l.to ≡ better l.first (better (least_from (entry l.self.rows.items l.height) l.low l.high) l.last))
