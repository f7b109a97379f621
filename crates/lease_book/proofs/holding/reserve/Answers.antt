use Rattle.std.proofs.Common.{◌≡◌, ◌<◌, ℕ, ap, arith, length, ◌∙◌}
use Rattle.storage_simulation.specs.declared.standing.Held.TheVariants.{Reserved}
use Rattle.storage_simulation.specs.Goods.{good_size, makes}
use Rattle.storage_simulation.specs.code.Standings.{held_of}
use Rattle.lease_book.proofs.ArrayLemmas.{made_in, write_end, write_step}
use Rattle.lease_book.proofs.holding.reserve.Goals as goal

pub set_held-requires : goal.set_held-requires
set_held-requires c =
    let below : c.loop-k.k < length (makes c.args.plan.now c.args.task) = omega arith in
    made_in c.args.plan.now c.loop-k.standing c.args.task c.loop-k.k c.made_at-good.result c.requires.laws c.loop-k.invariant.long below c.made_at-good.ensures

pub loop-k-preserved : goal.loop-k-preserved
loop-k-preserved c =
    let below : c.loop-k.k < length (makes c.args.plan.now c.args.task) = omega arith in
    record {
      held = write_step (makes c.args.plan.now c.args.task) (λ (g : ℕ). Reserved (good_size c.args.plan.now g)) (held_of c.set_held.new.standing) (held_of c.loop-k.standing) (held_of c.args.standing.now) c.loop-k.k c.made_at-good.result _ below c.made_at-good.ensures (ap (λ (n : ℕ). Reserved n) c.good_size.ensures) c.set_held.ensures.held c.loop-k.invariant.held;
      phase = c.set_held.ensures.phase ∙ c.loop-k.invariant.phase;
      long = record { pairs = c.set_held.ensures.pairs ∙ c.loop-k.invariant.long.pairs; tasks = c.set_held.ensures.tasks ∙ c.loop-k.invariant.long.tasks; deliveries = c.set_held.ensures.deliveries ∙ c.loop-k.invariant.long.deliveries };
    }

pub returns-clause-held : goal.returns-clause-held
returns-clause-held c =
    let end : c.loop-k.k ≡ length (makes c.args.plan.now c.args.task) = omega arith in
    write_end (makes c.args.plan.now c.args.task) (λ (g : ℕ). Reserved (good_size c.args.plan.now g)) (held_of c.loop-k.standing) (held_of c.args.standing.now) c.loop-k.k end c.loop-k.invariant.held
