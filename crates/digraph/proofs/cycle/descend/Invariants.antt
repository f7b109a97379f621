use Rattle.std.proofs.Common.{ℕ, ◌≡◌, ◌<◌, length}
use Rattle.std.specs.Prelude.{Some}
use Rattle.std.specs.List.{All}
use Rattle.digraph.proofs.CycleLemmas.{Continues}
use Rattle.digraph.specs.code.Adjacency.{leads, lists_of}
use Rattle.digraph.specs.code.Distances.{distance_at}
use Rattle.digraph.proofs.cycle.descend.Given as goal

abbrev pub invariant-loop-node : goal.invariant-loop-node
invariant-loop-node l =
    (distance_at l.table l.node ≡ Some l.left)
    × Continues (leads (lists_of l.successors)) l.start l.fn.distance l.fn.first l.left l.node l.nodes.items
    × All (λ (j : ℕ). j < length l.successors) l.nodes.items

abbrev pub decreases-loop-node : goal.decreases-loop-node
decreases-loop-node l = l.left
