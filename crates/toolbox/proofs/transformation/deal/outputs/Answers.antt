use Rattle.std.proofs.Common.{ap, length, arith}
use Rattle.toolbox.proofs.DealLemmas.{all_moved, moved}
use Rattle.toolbox.proofs.transformation.deal.outputs.Goals as goal

pub loop-text-preserved : goal.loop-text-preserved
loop-text-preserved c = (
  moved c.loop-text.outputs.items c.push.new.self.items c.loop-text.text-iterator.rest.items c.next.new.self.rest.items c.in-Some.text c.new.result _ c.loop-text.invariant.0 c.in-Some.ensures.steps.0 c.new.ensures c.in_ok-push.ensures.items,
  omega (arith, ap length c.in-Some.ensures.steps.0, c.in-Some.ensures.steps.1, c.loop-text.invariant.1),
)

pub returns : goal.returns
returns c = all_moved c.loop-text.outputs.items c.loop-text.text-iterator.rest.items c.loop-text.text-iterator.rest.len _ c.loop-text.invariant.0 c.loop-text.invariant.1 c.in-None.ensures.steps.0
