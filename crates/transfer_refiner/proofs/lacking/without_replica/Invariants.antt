use Rattle.std.proofs.Common.{◌≡◌}
use Rattle.std.specs.Prelude.{None}
use Rattle.plan_core.specs.Numbers.{least}
use Rattle.transfer_refiner.specs.code.Tasks.{lacks_replica}
use Rattle.transfer_refiner.specs.code.View.{draft_of}
use Rattle.transfer_refiner.proofs.lacking.without_replica.Given as goal

abbrev pub invariant-loop-f : goal.invariant-loop-f
invariant-loop-f l = least l.f (lacks_replica (draft_of l.view)) ≡ None
