use Rattle.std.proofs.Common.{ℕ, refl, sym}
use Rattle.storage_simulation.specs.declared.standing.Held.TheVariants.{Reserved}
use Rattle.storage_simulation.specs.Goods.{good_size}
use Rattle.storage_simulation.specs.code.Standings.{at_in}
use Rattle.record_audit.proofs.HoldingsLemmas.{shows_delivered, shows_made}
use Rattle.record_audit.proofs.holdings.Holdings.begin.Goals as goal

pub returns-then-not-is_delivery-clause-shows : goal.returns-then-not-is_delivery-clause-shows
returns-then-not-is_delivery-clause-shows c = λ w f shows.
    shows_made c.args.plan.now c.args.task.0 (λ (g : ℕ). Reserved (good_size c.args.plan.now g)) (λ (g : ℕ). good_size c.args.plan.now g) f
    (at_in 0 c.args.self.now.sizes.items) (at_in 0 c.reserve.new.self.sizes.items) (sym c.if-not-is_delivery.ensures) (λ g. refl) c.reserve.ensures.sizes shows

pub returns-else-not-is_delivery-clause-shows : goal.returns-else-not-is_delivery-clause-shows
returns-else-not-is_delivery-clause-shows c = λ w f shows.
    shows_delivered c.args.plan.now c.args.task.0 (λ (g : ℕ). Reserved (good_size c.args.plan.now g)) f (at_in 0 c.args.self.now.sizes.items) (sym c.if-not-is_delivery.ensures) shows
