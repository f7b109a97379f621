use Rattle.std.proofs.Common.{◌≡◌, ◌++◌, drop}
use Rattle.plan_core.specs.Words.{pair_numbers}
use Rattle.transfer_refiner.specs.code.Edges.{fan}
use Rattle.transfer_refiner.proofs.waiting.push_pairs.Given as goal

abbrev pub invariant-loop-pair : goal.invariant-loop-pair
invariant-loop-pair l = l.edges.items ++ fan l.task (pair_numbers (drop l.pair-index l.pairs)) ≡ l.fn.edges.items ++ fan l.task (pair_numbers l.pairs)
