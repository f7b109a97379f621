use Rattle.digraph.specs.code.Digraph.{count, edge}
use Rattle.plan_core.specs.code.Listing.{listed}
use Rattle.plan_core.specs.Numbers.{has}
use Rattle.plan_core.proofs.FlowLemmas.{once_decided}
use Rattle.plan_core.proofs.flow.lists_once.Goals as goal

pub returns : goal.returns
returns c = once_decided (edge c.in_ok-made.made) (λ t x. has (listed c.args.plan.now c.args.listing t) x) (count c.in_ok-made.made) c.successors.result.now c.have_few.result c.successors.ensures c.in_ok-made.ensures.edges c.have_few.ensures
