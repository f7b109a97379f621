use Rattle.digraph.specs.code.Adjacency.{lists_of, comes}
use Rattle.digraph.proofs.DistancesLemmas.{are_distances}
use Rattle.digraph.proofs.distances.distances_to.Goals as goal

pub returns-clause-distances : goal.returns-clause-distances
returns-clause-distances c = are_distances (comes (lists_of c.args.predecessors.now)) c.args.end c.in_ok-table.table.items c.in_ok-table.ensures.table
