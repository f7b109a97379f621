use Rattle.digraph.specs.code.Digraph.{count, edge}
use Rattle.digraph.specs.Order.{IsTopologicalOrder}
use Rattle.plan_core.specs.code.Proper.{is_parent}
use Rattle.plan_core.proofs.FlowLemmas.{acyclic_decided}
use Rattle.plan_core.proofs.flow.is_acyclic.Goals as goal

pub returns : goal.returns
returns c = acyclic_decided (edge c.in_ok-made.made) (is_parent c.args.plan.now) c.in_ok-order.order c.is_some.result (λ ns. IsTopologicalOrder (edge c.in_ok-made.made) (count c.in_ok-made.made) ns.items)
    c.in_ok-made.ensures.edges c.in_ok-order.ensures.order c.in_ok-order.ensures.acyclic c.is_some.ensures
