use Rattle.digraph.specs.code.Adjacency.{lists_of}
use Rattle.digraph.specs.code.Digraph.{count, edge}
use Rattle.transfer_refiner.proofs.RowsLemmas.{row_rises}
use Rattle.transfer_refiner.proofs.rows.after.Goals as goal

pub returns-clause-rises : goal.returns-clause-rises
returns-clause-rises c = row_rises (edge c.args.graph.now) (count c.args.graph.now) (lists_of c.successors.result.now) c.args.node c.row.result.now c.successors.ensures c.row.ensures
