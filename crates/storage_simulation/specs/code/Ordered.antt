-- Why a plan has no order from the start, want of memory aside.
use Rattle.plan_core.specs.declared.plan.Plan.{Plan}
use Rattle.storage_simulation.specs.declared.ordered.OrderFault.{OrderFault}
use Rattle.storage_simulation.specs.declared.ordered.OrderFault.TheVariants.{Exceeds, Memory}
use Rattle.storage_simulation.specs.code.Ordering.{IsExceeds}
use Rattle.storage_simulation.specs.Ordering.{at_start}

abbrev pub IsFault : Plan → OrderFault → Type 0
IsFault p (Exceeds e) = IsExceeds p at_start e
IsFault p Memory = Unit {0}
