use Rattle.std.proofs.Common.{◌-◌, length}
use Rattle.digraph.proofs.KahnLemmas.{Placed}
use Rattle.digraph.specs.code.Adjacency.{lists_of}
use Rattle.digraph.proofs.kahn.place.Given as goal

abbrev pub invariant-loop-head : goal.invariant-loop-head
invariant-loop-head l = Placed (lists_of l.predecessors) l.head l.ordered.items l.counts.items

abbrev pub decreases-loop-head : goal.decreases-loop-head
decreases-loop-head l = length l.predecessors - l.head
