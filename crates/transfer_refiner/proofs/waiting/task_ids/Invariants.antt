use Rattle.std.proofs.Common.{◌≡◌, ◌++◌, drop}
use Rattle.plan_core.specs.Words.{task_numbers}
use Rattle.transfer_refiner.proofs.waiting.task_ids.Given as goal

abbrev pub invariant-loop-number : goal.invariant-loop-number
invariant-loop-number l = task_numbers l.ids.items ++ drop l.number-index l.numbers ≡ l.numbers
