use Rattle.std.proofs.Common.{◌≡◌, drop}
use Rattle.plan_core.specs.code.Flow.{are_allowed}
use Rattle.plan_core.proofs.flow.are_allowed.Given as goal

abbrev pub invariant-loop-number : goal.invariant-loop-number
invariant-loop-number l = are_allowed l.plan (drop l.number-index l.listed) l.needed l.fn.task.0 ≡ are_allowed l.plan l.listed l.needed l.fn.task.0
