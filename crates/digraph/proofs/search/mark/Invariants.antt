use Rattle.std.proofs.Common.{◌≡◌, length, take}
use Rattle.digraph.specs.code.Search.{IsMarked}
use Rattle.digraph.proofs.search.mark.Given as goal

abbrev pub invariant-loop-node : goal.invariant-loop-node
invariant-loop-node l = (length l.table.items ≡ length l.initial.table.items) × IsMarked l.initial.table.items l.table.items l.initial.next.items l.next.items (take l.node-index l.nodes) l.distance
