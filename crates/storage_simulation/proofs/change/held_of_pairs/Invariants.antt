use Rattle.std.proofs.Common.{◌≡◌, ◌+◌, drop}
use Rattle.plan_core.specs.Words.{pair_numbers}
use Rattle.storage_simulation.specs.code.Change.{held_part}
use Rattle.storage_simulation.specs.Usage.{sum_of}
use Rattle.storage_simulation.specs.code.Standings.{held_of}
use Rattle.storage_simulation.specs.Standings.{sizes}
use Rattle.storage_simulation.proofs.change.held_of_pairs.Given as goal

abbrev pub invariant-loop-pair : goal.invariant-loop-pair
invariant-loop-pair l = l.sum + sum_of (held_part l.plan (sizes (held_of l.standing)) l.place) (pair_numbers (drop l.pair-index l.pairs)) ≡ sum_of (held_part l.plan (sizes (held_of l.standing)) l.place) (pair_numbers l.pairs)
