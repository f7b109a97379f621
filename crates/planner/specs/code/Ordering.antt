-- Why a plan has no order.
use Rattle.std.specs.Prelude.{◌≡◌}
use Rattle.plan_core.specs.declared.plan.Plan.{Plan}
use Rattle.storage_simulation.specs.declared.fitting.Exceeds.{Exceeds}
use Rattle.storage_simulation.specs.code.Ordering.{IsExceeds}
use Rattle.storage_simulation.specs.Ordering.{at_start}
use Rattle.planner.specs.declared.plan_fault.PlanFault.{PlanFault}
use Rattle.planner.specs.declared.plan_fault.PlanFault.TheVariants as plan
use Rattle.planner.specs.code.PlanFault.{exceeds_fault}

-- A task passes a bound.
pub record Passes (p : Plan) (fault : PlanFault) : Type 0 where
  pub exceeds : Exceeds
  pub comes : IsExceeds p at_start exceeds
  pub fault_is : fault ≡ exceeds_fault p exceeds

-- want of memory is free
abbrev pub CannotOrder : Plan → PlanFault → Type 0
CannotOrder p plan.Memory = Unit {0}
CannotOrder p fault = Passes p fault
