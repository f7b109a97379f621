use Rattle.std.proofs.Common.{◌<◌, ℕ}
use Rattle.tournament_tree.specs.Tree.{entry}
use Rattle.storage_simulation.specs.code.Front.{front_of}
use Rattle.storage_simulation.specs.code.Index.{IsBestAt, IsLaid, IsSettled}
use Rattle.storage_simulation.specs.code.Ordering.{progress}
use Rattle.storage_simulation.proofs.advancing.best_all.Given as goal

abbrev pub invariant-loop-home : goal.invariant-loop-home
invariant-loop-home l = IsLaid l.plan (progress l.standing) l.index × IsSettled l.initial.index l.index × ((h : ℕ) → h < l.home → IsBestAt l.plan (progress l.standing) (front_of l.front) h (entry l.index.best.rows.items 0 h))
