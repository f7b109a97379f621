use Rattle.std.proofs.Common.{◌≡◌, ◌+◌, drop}
use Rattle.plan_core.specs.Words.{pair_numbers}
use Rattle.storage_simulation.specs.Ordering.{coming}
use Rattle.storage_simulation.specs.code.Ordering.{progress}
use Rattle.storage_simulation.specs.Usage.{sum_of}
use Rattle.storage_simulation.proofs.scoring.coming_of_pairs.Given as goal

abbrev pub invariant-loop-pair : goal.invariant-loop-pair
invariant-loop-pair l = l.sum + sum_of (coming l.plan (progress l.standing)) (pair_numbers (drop l.pair-index l.pairs)) ≡ sum_of (coming l.plan (progress l.standing)) (pair_numbers l.pairs)
