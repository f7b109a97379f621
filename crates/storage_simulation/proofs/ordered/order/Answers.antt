use Rattle.plan_core.specs.Words.{task_numbers}
use Rattle.storage_simulation.specs.Ordering.{at_start}
use Rattle.storage_simulation.proofs.StartLemmas.{start_within}
use Rattle.storage_simulation.proofs.ordered.order.Goals as goal

pub invariant_of-result : goal.invariant_of-result
invariant_of-result c = record {
  proper = c.requires.proper;
  limits = c.requires.limits;
  order = ∣ c.in-Ok.ensures.order ∣₁;
  fits = c.order_fits.ensures.fits c.args.plan at_start (task_numbers c.in-Ok.bench.front.placed.items) (c.proper_plans_keep_goods.ensures c.args.plan c.requires.proper) (start_within c.args.plan) c.in-Ok.ensures.order;
  peaks_are = ∣ c.in-Ok.ensures.peaks ∣₁;
}
