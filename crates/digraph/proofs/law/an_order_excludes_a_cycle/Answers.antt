use Rattle.digraph.proofs.OrderLemmas.{order_excludes}
use Rattle.digraph.proofs.law.an_order_excludes_a_cycle.Goals as goal

pub returns : goal.returns
returns c = order_excludes
