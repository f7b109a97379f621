-- A fault of a tree that isn't want of memory.
use Rattle.std.proofs.Common.{◌≡◌, refl}
use Rattle.peg_json.specs.declared.fault.TreeFault.{TreeFault}
use Rattle.peg_json.specs.declared.fault.TreeFault.TheVariants as faults
use Rattle.planner.specs.declared.document.Document.{Document}
use Rattle.planner.specs.declared.plan_fault.PlanFault.TheVariants as plan
use Rattle.planner.specs.code.PlanFault.{tree_fault}

pub tree_fault_but_memory : (which : Document) (fault : TreeFault) → (fault ≡ faults.Memory → ⊥) → plan.Tree which fault ≡ tree_fault which fault
tree_fault_but_memory which faults.Memory isnt = absurd (isnt refl)
tree_fault_but_memory which fault isnt = refl
