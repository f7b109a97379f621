use Rattle.std.proofs.Common.{◌≡◌, take}
use Rattle.ensemble.proofs.copying.executions_copied.Given as goal

abbrev pub invariant-loop-execution : goal.invariant-loop-execution
invariant-loop-execution l = l.copies.items ≡ take l.execution-index l.execute
