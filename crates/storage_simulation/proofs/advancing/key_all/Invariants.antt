use Rattle.std.proofs.Common.{◌≡◌, ◌<◌, ℕ}
use Rattle.plan_core.specs.Words.{count_tasks}
use Rattle.storage_simulation.specs.code.Front.{front_of}
use Rattle.storage_simulation.specs.code.Index.{IsKeyed, IsLaid, ready_key, told}
use Rattle.storage_simulation.specs.code.Ordering.{progress}
use Rattle.storage_simulation.proofs.advancing.key_all.Given as goal

abbrev pub invariant-loop-task : goal.invariant-loop-task
invariant-loop-task l = IsLaid l.plan (progress l.standing) l.index × IsKeyed l.initial.index l.index × ((u : ℕ) → u < l.task → u < count_tasks l.plan → told l.index u ≡ ready_key l.plan (progress l.standing) (front_of l.front) u)
