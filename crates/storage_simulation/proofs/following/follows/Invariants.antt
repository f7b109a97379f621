use Rattle.std.proofs.Common.{◌≡◌, ◌<◌, ℕ, true, length, take, get_or}
use Rattle.plan_core.specs.Words.{count_tasks, task_numbers}
use Rattle.storage_simulation.specs.code.Standings.{phase_of}
use Rattle.storage_simulation.specs.code.Following.{AreMarked, may_follow}
use Rattle.storage_simulation.proofs.following.follows.Given as goal

abbrev pub invariant-loop-k : goal.invariant-loop-k
invariant-loop-k l = (length l.marks.items ≡ count_tasks l.plan) × AreMarked l.marks.items (take l.k (task_numbers l.order)) × ((j : ℕ) → j < l.k → may_follow l.plan (phase_of l.standing) (take j (task_numbers l.order)) (get_or (task_numbers l.order) j 0) ≡ true)
