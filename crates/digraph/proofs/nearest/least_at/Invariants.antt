use Rattle.std.proofs.Common.{◌≡◌, ℕ, true, take}
use Rattle.std.specs.Prelude.{Some}
use Rattle.digraph.specs.Adjacency.{has_node}
use Rattle.digraph.specs.code.Distances.{distance_at}
use Rattle.digraph.proofs.nearest.least_at.Given as goal

abbrev pub invariant-loop-node : goal.invariant-loop-node
invariant-loop-node l = (b : ℕ) → has_node b (take l.node-index l.nodes) ≡ true → distance_at l.table b ≡ Some l.distance → ⊥
