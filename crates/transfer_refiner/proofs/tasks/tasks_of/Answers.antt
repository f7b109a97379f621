use Rattle.std.proofs.Common.{List, All, subst, sym}
use Rattle.std.specs.Prelude.{IfOk}
use Rattle.plan_core.specs.declared.plan.Pair.{Pair}
use Rattle.transfer_refiner.specs.code.Places.{AreOnce}
use Rattle.transfer_refiner.specs.code.Steps.{IsListed}
use Rattle.transfer_refiner.proofs.tasks.tasks_of.Goals as goal

pub tasks_at-tasks-requires : goal.tasks_at-tasks-requires
tasks_at-tasks-requires c = record { once = subst AreOnce (sym c.in_ok-places.ensures) c.requires.once }

pub returns-clause-listed : goal.returns-clause-listed
returns-clause-listed c = subst (λ (pairs : List Pair). IfOk c.tasks_at-tasks.result (λ tasks. All (IsListed c.args.jobs.now pairs) tasks.items)) c.in_ok-places.ensures c.tasks_at-tasks.ensures.listed
