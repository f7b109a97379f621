use Rattle.std.proofs.Common.{◌+◌, length}
use Rattle.digraph.proofs.SearchLemmas.{Searched}
use Rattle.digraph.specs.code.Adjacency.{lists_of}
use Rattle.digraph.specs.code.Search.{unknown}
use Rattle.digraph.proofs.search.search.Given as goal

abbrev pub invariant-loop-alloc : goal.invariant-loop-alloc
invariant-loop-alloc l = Searched (lists_of l.predecessors) l.fn.start l.distance l.frontier.items l.table.items

abbrev pub decreases-loop-alloc : goal.decreases-loop-alloc
decreases-loop-alloc l = unknown l.table.items + length l.frontier.items
