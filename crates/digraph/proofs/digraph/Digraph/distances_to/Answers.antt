use Rattle.std.proofs.Common.{ℕ, Bool, subst}
use Rattle.digraph.specs.code.Adjacency.{lists_of}
use Rattle.digraph.specs.code.Distances.{AreDistances}
use Rattle.digraph.proofs.AdjacencyLemmas.{same_edges}
use Rattle.digraph.proofs.digraph.Digraph.distances_to.Goals as goal

pub returns-clause-distances : goal.returns-clause-distances
returns-clause-distances c =
    subst (λ (e : ℕ → ℕ → Bool). AreDistances e c.args.end c.in_ok-table.table.items) (same_edges (lists_of c.args.self.now.predecessors.items) (lists_of c.args.self.now.successors.items) c.args.self.now.linked)
    (rw c.deref.ensures.value at c.in_ok-table.ensures.distances)
