use Rattle.std.proofs.Common.{◌≡◌, drop}
use Rattle.site_yard.specs.code.Ending.{first_failed}
use Rattle.site_yard.proofs.ending.first_failed.Given as goal

abbrev pub invariant-loop-k : goal.invariant-loop-k
invariant-loop-k l = first_failed (drop l.k l.history.events) ≡ first_failed l.history.events
