use Rattle.std.proofs.Common.{◌≡◌, ◌≤◌, ◌+◌, ◌*◌, ◌^◌, ℕ, true, false, length, drop, get_or}
use Rattle.plan_core.specs.Words.{count_tasks}
use Rattle.storage_simulation.specs.code.Front.{front_of}
use Rattle.storage_simulation.specs.code.Index.{last_of}
use Rattle.storage_simulation.specs.Ordering.{is_done}
use Rattle.storage_simulation.specs.code.Ordering.{progress}
use Rattle.storage_simulation.specs.Usage.{sum_of}
use Rattle.storage_simulation.proofs.upkeep.raise_all.Given as goal

abbrev pub invariant-loop-task : goal.invariant-loop-task
invariant-loop-task l = (length l.table.items ≡ count_tasks l.plan)
    × ((v : ℕ) → is_done (progress l.standing) (front_of l.front) v ≡ false → get_or l.table.items v 0 + sum_of (last_of l.plan (progress l.standing) (front_of l.front) v) (drop l.task-index l.tasks) ≡ get_or l.initial.table.items v 0 + sum_of (last_of l.plan (progress l.standing) (front_of l.front) v) l.tasks)
    × ((v : ℕ) → get_or l.table.items v 0 ≤ get_or l.initial.table.items v 0 + l.task-index * 2 ^ 40)
    × ((v : ℕ) → is_done (progress l.standing) (front_of l.front) v ≡ true → get_or l.table.items v 0 ≡ get_or l.initial.table.items v 0)
