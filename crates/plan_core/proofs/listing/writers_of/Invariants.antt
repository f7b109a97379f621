use Rattle.std.proofs.Common.{◌≡◌, ◌++◌, drop}
use Rattle.std.specs.List.{flat_map}
use Rattle.digraph.specs.code.Adjacency.{lists_of}
use Rattle.digraph.specs.Adjacency.{neighbours}
use Rattle.plan_core.specs.Words.{pair_numbers}
use Rattle.plan_core.proofs.listing.writers_of.Given as goal

abbrev pub invariant-loop-pair : goal.invariant-loop-pair
invariant-loop-pair l = l.tasks.items ++ flat_map (neighbours (lists_of l.writers)) (pair_numbers (drop l.pair-index l.pairs)) ≡ flat_map (neighbours (lists_of l.writers)) (pair_numbers l.pairs)
