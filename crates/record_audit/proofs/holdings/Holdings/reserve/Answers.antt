use Rattle.std.proofs.Common.{◌<◌, arith, length}
use Rattle.plan_core.specs.Words.{writes}
use Rattle.lease_rules.proofs.GoodsLemmas.{good_small}
use Rattle.record_audit.proofs.HoldingsLemmas.{written_in}
use Rattle.record_audit.proofs.holdings.Holdings.reserve.Goals as goal

pub set-requires-clause-pair : goal.set-requires-clause-pair
set-requires-clause-pair c =
    let below : c.loop-k.k < length (writes c.args.plan.now c.args.task.0) = omega arith in
    written_in c.args.plan.now c.args.task.0 c.loop-k.k c.written_at-pair.result c.requires.range below c.written_at-pair.ensures

pub set-requires-clause-small : goal.set-requires-clause-small
set-requires-clause-small c = let small = good_small c.args.plan.now c.written_at-pair.result c.requires.limits in omega (arith, small, c.good_size.ensures)
