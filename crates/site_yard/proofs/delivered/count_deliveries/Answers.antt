use Rattle.std.proofs.Common.{arith}
use Rattle.storage_simulation.specs.Goods.{is_delivery}
use Rattle.site_yard.proofs.DeliveryRoomLemmas.{count_more, count_none}
use Rattle.site_yard.proofs.delivered.count_deliveries.Goals.{then-is_delivery, else-is_delivery}
use Rattle.site_yard.proofs.delivered.count_deliveries.Goals as goal

pub loop-k-init : goal.loop-k-init
loop-k-init c = count_none (is_delivery c.args.plan.now)

pub loop-k-preserved : goal.loop-k-preserved
loop-k-preserved c = elim c.if-is_delivery.branch [
  | then-is_delivery w ↦ let is = w.count-is in count_more (is_delivery c.args.plan.now) c.loop-k.k c.loop-k.count c.if-is_delivery.count c.is_delivery.result c.is_delivery.ensures (let yes = w.if-is_delivery.true in rw yes (omega (arith, is))) c.loop-k.invariant
  | else-is_delivery w ↦ let is = w.count-is in count_more (is_delivery c.args.plan.now) c.loop-k.k c.loop-k.count c.if-is_delivery.count c.is_delivery.result c.is_delivery.ensures (let no = w.if-is_delivery.false in rw no (omega (arith, is))) c.loop-k.invariant
]
