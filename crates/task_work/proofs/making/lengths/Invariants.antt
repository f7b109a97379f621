use Rattle.std.proofs.Common.{◌≡◌, ◌++◌, length, map, drop}
use Rattle.task_work.proofs.making.lengths.Given as goal

abbrev pub invariant-loop-output : goal.invariant-loop-output
invariant-loop-output l = l.sizes.items ++ map length (drop l.output-index l.outputs) ≡ map length l.outputs
