use Rattle.std.proofs.Common.{◌≡◌, length, take}
use Rattle.digraph.proofs.AdjacencyLemmas.{Paired}
use Rattle.digraph.specs.code.Adjacency.{lists_of}
use Rattle.digraph.proofs.adjacency.add_pairs.Given as goal

abbrev pub invariant-loop-pair : goal.invariant-loop-pair
invariant-loop-pair l = (length l.lists.items ≡ length l.initial.lists.items) × Paired (lists_of l.initial.lists.items) (lists_of l.lists.items) (length l.initial.lists.items) (take l.pair-index l.pairs)
