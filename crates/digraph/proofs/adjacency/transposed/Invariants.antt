use Rattle.std.proofs.Common.{◌≡◌, length}
use Rattle.digraph.proofs.ScatterLemmas.{Turned}
use Rattle.digraph.specs.code.Adjacency.{lists_of}
use Rattle.digraph.proofs.adjacency.transposed.Given as goal

abbrev pub invariant-loop-i : goal.invariant-loop-i
invariant-loop-i l = (length l.turned.items ≡ length l.lists) × Turned (lists_of l.lists) (lists_of l.turned.items) l.i
