use Rattle.std.proofs.Common.{◌≡◌, take}
use Rattle.plan_core.specs.Words.{task_numbers}
use Rattle.storage_simulation.specs.code.Front.{front_of}
use Rattle.storage_simulation.specs.Ordering.{is_done}
use Rattle.storage_simulation.specs.code.Ordering.{progress}
use Rattle.storage_simulation.proofs.ScoringLemmas.{failing}
use Rattle.storage_simulation.proofs.upkeep.last_parent.Given as goal

abbrev pub invariant-loop-parent : goal.invariant-loop-parent
invariant-loop-parent l = failing (is_done (progress l.standing) (front_of l.front)) (take l.parent-index (task_numbers l.parents)) ≡ 0
