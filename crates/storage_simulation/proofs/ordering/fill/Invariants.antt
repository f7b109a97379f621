use Rattle.std.proofs.Common.{◌≤◌, ◌+◌}
use Rattle.plan_core.specs.Words.{count_tasks}
use Rattle.storage_simulation.specs.code.Front.{IsSet, front_of}
use Rattle.storage_simulation.specs.code.Index.{IsIndex}
use Rattle.storage_simulation.specs.code.Ordering.{progress}
use Rattle.storage_simulation.proofs.CountingLemmas.{left}
use Rattle.storage_simulation.proofs.ordering.fill.Given as goal

abbrev pub invariant-loop-step : goal.invariant-loop-step
invariant-loop-step l = IsSet l.plan l.standing l.front × IsIndex l.plan (progress l.standing) (front_of l.front) l.index × (left l.plan (progress l.standing) (front_of l.front) + l.step ≤ count_tasks l.plan)
