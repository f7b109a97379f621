use Rattle.std.proofs.Common.{◌≡◌, ◌≤◌, ◌*◌, ◌^◌}
use Rattle.storage_simulation.specs.Usage.{usage_of_good}
use Rattle.values.specs.Numbers.{total}
use Rattle.storage_simulation.specs.code.Standings.{held_of}
use Rattle.storage_simulation.specs.Standings.{sizes}
use Rattle.plan_core.specs.Words.{task_numbers}
use Rattle.storage_simulation.proofs.usage.usage_after.Given as goal

abbrev pub invariant-loop-good : goal.invariant-loop-good
invariant-loop-good l = (l.sum ≡ total l.good (usage_of_good l.plan (sizes (held_of l.standing)) (task_numbers l.front) l.site.0)) × (l.sum ≤ l.good * 2 ^ 40)
