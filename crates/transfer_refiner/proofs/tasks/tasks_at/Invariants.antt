use Rattle.std.proofs.Common.{◌≡◌, map, take, All}
use Rattle.plan_core.specs.declared.plan.Task.{Task}
use Rattle.transfer_refiner.specs.code.Steps.{IsListed}
use Rattle.transfer_refiner.proofs.tasks.tasks_at.Given as goal

abbrev pub invariant-loop-kind : goal.invariant-loop-kind
invariant-loop-kind l = record { kinds : map (λ (t : Task). t.kind) l.tasks.items ≡ take l.kind-index l.given; listed : All (IsListed l.jobs l.places) l.tasks.items }
