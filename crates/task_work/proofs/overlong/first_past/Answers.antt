use Rattle.std.proofs.Common.{◌<◌, length, arith}
use Rattle.values.specs.declared.numbers.PairId.{PairId}
use Rattle.task_work.proofs.OverlongLemmas.{past_here, within_here}
use Rattle.task_work.proofs.overlong.first_past.Goals as goal

pub returns-then-length-pair_limit : goal.returns-then-length-pair_limit
returns-then-length-pair_limit c =
    let k = c.loop-k.k in
    let less : k < length c.args.outputs.now = omega (arith, c.loop-k-test.true, c.requires) in
    past_here c.args.plan.now c.args.pairs.now c.args.outputs.now k _ _ c.as_slice.result.now c.loop-k-test.true less c.loop-k.invariant c.index-outputs-k.is c.as_slice.ensures (omega (arith, c.if-length-pair_limit.true, c.pair_limit.ensures))

pub loop-k-preserved : goal.loop-k-preserved
loop-k-preserved c =
    let k = c.loop-k.k in
    let zeroth : PairId = record { 0 = 0 } in
    let less : k < length c.args.outputs.now = omega (arith, c.loop-k-test.true, c.requires) in
    within_here c.args.plan.now c.args.pairs.now c.args.outputs.now k zeroth _ c.as_slice.result.now c.loop-k-test.true less c.loop-k.invariant c.index-outputs-k.is c.as_slice.ensures (omega (arith, c.if-length-pair_limit.false, c.pair_limit.ensures))
