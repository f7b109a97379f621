use Rattle.std.proofs.Common.{◌≡◌, ◌++◌, drop}
use Rattle.plan_core.specs.Words.{pair_numbers}
use Rattle.transfer_refiner.proofs.places.pair_ids.Given as goal

abbrev pub invariant-loop-number : goal.invariant-loop-number
invariant-loop-number l = pair_numbers l.ids.items ++ drop l.number-index l.numbers ≡ l.numbers
