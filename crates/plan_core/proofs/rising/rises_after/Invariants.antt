use Rattle.std.proofs.Common.{◌≡◌, drop}
use Rattle.plan_core.specs.code.Rising.{rises_after}
use Rattle.plan_core.proofs.rising.rises_after.Given as goal

abbrev pub invariant-loop-number : goal.invariant-loop-number
invariant-loop-number l = rises_after l.last (drop l.number-index l.rest) ≡ rises_after l.first l.rest
