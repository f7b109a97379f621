use Rattle.std.proofs.Common.{◌<◌, ◌-◌, arith, length, refl, ◌∙◌}
use Rattle.storage_simulation.specs.Goods.{makes}
use Rattle.storage_simulation.specs.code.Standings.{held_of}
use Rattle.lease_book.proofs.ArrayLemmas.{made_in, stored_more}
use Rattle.lease_book.proofs.holding.store_each.Goals as goal

pub set_held-requires : goal.set_held-requires
set_held-requires c =
    let below : c.loop-k.k - 1 < length (makes c.args.plan.now c.args.task) = omega arith in
    made_in c.args.plan.now c.loop-k.standing c.args.task (c.loop-k.k - 1) c.made_at-good.result c.requires.laws c.loop-k.invariant.long below c.made_at-good.ensures

pub loop-k-preserved : goal.loop-k-preserved
loop-k-preserved c =
    let below : c.loop-k.k - 1 < length (makes c.args.plan.now c.args.task) = omega arith in
    record {
      held = stored_more (makes c.args.plan.now c.args.task) c.args.sizes.now (held_of c.set_held.new.standing) (held_of c.loop-k.standing) (held_of c.args.standing.now) (c.loop-k.k - 1) c.loop-k.k c.made_at-good.result _ (omega arith) below c.requires.sizes c.made_at-good.ensures refl c.set_held.ensures.held c.loop-k.invariant.held;
      phase = c.set_held.ensures.phase ∙ c.loop-k.invariant.phase;
      long = record { pairs = c.set_held.ensures.pairs ∙ c.loop-k.invariant.long.pairs; tasks = c.set_held.ensures.tasks ∙ c.loop-k.invariant.long.tasks; deliveries = c.set_held.ensures.deliveries ∙ c.loop-k.invariant.long.deliveries };
      below = omega arith;
    }
