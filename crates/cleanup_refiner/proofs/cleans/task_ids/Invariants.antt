use Rattle.std.proofs.Common.{◌≡◌, ◌++◌, drop, map}
use Rattle.cleanup_refiner.specs.Cleans.{task}
use Rattle.cleanup_refiner.proofs.cleans.task_ids.Given as goal

abbrev pub invariant-loop-number : goal.invariant-loop-number
invariant-loop-number l = l.tasks.items ++ map task (drop l.number-index l.numbers) ≡ map task l.numbers
