use Rattle.std.proofs.Common.{ℕ}
use Rattle.digraph.specs.code.Adjacency.{lists_of}
use Rattle.digraph.specs.code.Digraph.{count, edge}
use Rattle.transfer_refiner.proofs.RowsLemmas.{row_rises}
use Rattle.transfer_refiner.proofs.rows.before.Goals as goal

pub returns-clause-rises : goal.returns-clause-rises
returns-clause-rises c = row_rises (λ (a b : ℕ). edge c.args.graph.now b a) (count c.args.graph.now) (lists_of c.predecessors.result.now) c.args.node c.row.result.now c.predecessors.ensures c.row.ensures
