use Rattle.std.proofs.Common.{◌≡◌, ◌++◌, drop}
use Rattle.ensemble.proofs.workflows.add_stated.Given as goal

abbrev pub invariant-loop-size : goal.invariant-loop-size
invariant-loop-size l = l.sizes.items ++ drop l.size-index l.more ≡ l.fn.sizes.items ++ l.more
