-- Beside `specs/Refined.antt`: what the code's own contracts say.
use Rattle.std.specs.Prelude.{◌≡◌, ℕ, Some, None, Result, Ok, Err}
use Rattle.plan_core.specs.declared.plan.Plan.{Plan}
use Rattle.transfer_refiner.specs.declared.fault.RefineFault.{RefineFault}
use Rattle.transfer_refiner.specs.declared.fault.RefineFault.TheVariants.{NoReplica, NoSize, TooMany, Memory}
use Rattle.transfer_refiner.specs.Draft.{Draft}
use Rattle.transfer_refiner.specs.code.Tasks.{first_fault}
use Rattle.transfer_refiner.specs.Refined.{IsRefined}

-- the plan where there is no fault, else the first fault; want of memory is free
abbrev pub Refines : Draft → ℕ → Result Plan RefineFault → Type 0
Refines d limit (Ok p) = (first_fault d limit ≡ None) × IsRefined d p
Refines d limit (Err (NoReplica n)) = first_fault d limit ≡ Some (NoReplica n)
Refines d limit (Err (NoSize n)) = first_fault d limit ≡ Some (NoSize n)
Refines d limit (Err (TooMany c l)) = first_fault d limit ≡ Some (TooMany c l)
Refines d limit (Err Memory) = Unit {0}
