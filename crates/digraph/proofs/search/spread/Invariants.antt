use Rattle.std.proofs.Common.{◌≡◌, length, take}
use Rattle.digraph.specs.code.Adjacency.{lists_of}
use Rattle.digraph.specs.code.Search.{IsSpread}
use Rattle.digraph.proofs.search.spread.Given as goal

abbrev pub invariant-loop-node : goal.invariant-loop-node
invariant-loop-node l = (length l.table.items ≡ length l.initial.table.items) × IsSpread (lists_of l.predecessors) l.initial.table.items l.table.items (take l.node-index l.frontier) l.next.items l.distance
