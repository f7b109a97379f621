use Rattle.std.proofs.Common.{◌≤◌, ◌*◌, ◌^◌, ◌+◌, ℕ, get_or, arith}
use Rattle.plan_core.specs.Words.{count_tasks}
use Rattle.storage_simulation.proofs.FollowingLemmas.{at_place}
use Rattle.storage_simulation.proofs.ScoringLemmas.{rises_few}
use Rattle.storage_simulation.proofs.upkeep.raise_all.Goals as goal

pub raise_one-requires-clause-in_range : goal.raise_one-requires-clause-in_range
raise_one-requires-clause-in_range c = c.requires.in_range (get_or c.args.tasks.now c.loop-task.task-index 0) (at_place c.args.tasks.now c.loop-task.task-index c.loop-task-test.true)

pub raise_one-requires-clause-small : goal.raise_one-requires-clause-small
raise_one-requires-clause-small c =
    let few = rises_few 0 (count_tasks c.args.plan.now) c.args.tasks.now c.requires.rises (omega arith) c.requires.in_range in
    let tasks = c.requires.set.limits.tasks in
    λ v. let now = c.loop-task.invariant.2 v in let was = c.requires.small v in product c.loop-task.task-index (get_or c.loop-task.table.items v 0) (get_or c.args.table.now.items v 0) now was (omega (arith, few, tasks, c.loop-task-test.true))
  where
    product : (i n m : ℕ) → n ≤ m + i * 2 ^ 40 → m ≤ 2 ^ 62 → i ≤ 120000 → n ≤ 2 ^ 63
    product i n m h k l = omega (arith, h, k, l)
