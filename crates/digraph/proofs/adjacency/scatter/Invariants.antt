use Rattle.std.proofs.Common.{◌≡◌, length, take}
use Rattle.digraph.specs.code.Adjacency.{lists_of}
use Rattle.digraph.specs.code.Scatter.{IsScattered}
use Rattle.digraph.proofs.adjacency.scatter.Given as goal

abbrev pub invariant-loop-place : goal.invariant-loop-place
invariant-loop-place l = (length l.lists.items ≡ length l.initial.lists.items) × IsScattered (lists_of l.initial.lists.items) (lists_of l.lists.items) l.node (take l.place-index l.places)
