use Rattle.std.proofs.Common.{◌≡◌, ◌++◌, drop}
use Rattle.plan_core.specs.Words.{pair_numbers}
use Rattle.cleanup_refiner.proofs.touching.push_pairs.Given as goal

abbrev pub invariant-loop-pair : goal.invariant-loop-pair
invariant-loop-pair l = l.numbers.items ++ pair_numbers (drop l.pair-index l.pairs) ≡ l.initial.numbers.items ++ pair_numbers l.pairs
