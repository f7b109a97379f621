use Rattle.std.proofs.Common.{◌≡◌, drop}
use Rattle.plan_core.specs.code.Proper.{rise_after}
use Rattle.plan_core.proofs.tables.rise_after.Given as goal

abbrev pub invariant-loop-pair : goal.invariant-loop-pair
invariant-loop-pair l = rise_after l.last (drop l.pair-index l.rest) ≡ rise_after l.fn.first l.rest
