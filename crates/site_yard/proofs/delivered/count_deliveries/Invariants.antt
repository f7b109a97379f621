use Rattle.storage_simulation.specs.Goods.{is_delivery}
use Rattle.site_yard.proofs.DeliveryRoomLemmas.{IsCount}
use Rattle.site_yard.proofs.delivered.count_deliveries.Given as goal

abbrev pub invariant-loop-k : goal.invariant-loop-k
invariant-loop-k l = IsCount (is_delivery l.plan) l.k l.count
