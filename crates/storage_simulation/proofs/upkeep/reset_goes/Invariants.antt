use Rattle.std.proofs.Common.{◌≡◌, ◌≤◌, ◌*◌, ◌^◌, ℕ, false, length, get_or}
use Rattle.plan_core.specs.Words.{count_tasks}
use Rattle.storage_simulation.specs.code.Front.{front_of}
use Rattle.storage_simulation.specs.code.Index.{last_of}
use Rattle.storage_simulation.specs.Ordering.{is_done}
use Rattle.storage_simulation.specs.code.Ordering.{progress}
use Rattle.values.specs.Numbers.{total}
use Rattle.storage_simulation.proofs.upkeep.reset_goes.Given as goal

abbrev pub invariant-loop-task : goal.invariant-loop-task
invariant-loop-task l = (length l.table.items ≡ count_tasks l.plan)
    × ((v : ℕ) → is_done (progress l.standing) (front_of l.front) v ≡ false → get_or l.table.items v 0 ≡ total l.task (last_of l.plan (progress l.standing) (front_of l.front) v))
    × ((v : ℕ) → get_or l.table.items v 0 ≤ l.task * 2 ^ 40)
