use Rattle.std.proofs.Common.{◌<◌, ◌-◌, arith, length}
use Rattle.plan_core.specs.Words.{writes}
use Rattle.record_audit.proofs.HoldingsLemmas.{written_in}
use Rattle.record_audit.proofs.holdings.Holdings.store_each.Goals as goal

pub set-requires-clause-pair : goal.set-requires-clause-pair
set-requires-clause-pair c =
    let below : c.loop-k.k - 1 < length (writes c.args.plan.now c.args.task.0) = omega arith in
    written_in c.args.plan.now c.args.task.0 (c.loop-k.k - 1) c.written_at-pair.result c.requires.range below c.written_at-pair.ensures
