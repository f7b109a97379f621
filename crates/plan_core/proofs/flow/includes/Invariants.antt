use Rattle.std.proofs.Common.{◌≡◌, drop}
use Rattle.plan_core.specs.code.Flow.{includes}
use Rattle.plan_core.proofs.flow.includes.Given as goal

abbrev pub invariant-loop-number : goal.invariant-loop-number
invariant-loop-number l = includes l.listed (drop l.number-index l.needed) ≡ includes l.listed l.needed
