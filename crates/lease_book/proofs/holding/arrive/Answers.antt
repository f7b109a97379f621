use Rattle.std.proofs.Common.{ℕ, ap, cond, ◌∙◌}
use Rattle.plan_core.specs.Numbers.{has}
use Rattle.storage_simulation.specs.declared.standing.Held.{Held}
use Rattle.storage_simulation.specs.declared.standing.Held.TheVariants.{Stored}
use Rattle.storage_simulation.specs.declared.standing.Phase.{Phase}
use Rattle.storage_simulation.specs.Goods.{makes}
use Rattle.lease_book.proofs.holding.arrive.Goals as goal

pub returns-clause-phase : goal.returns-clause-phase
returns-clause-phase c = λ t. ap (λ (f : ℕ → Phase). f t) c.store.ensures.phase ∙ c.set_phase.ensures.phase t

pub returns-clause-held : goal.returns-clause-held
returns-clause-held c = λ g. c.store.ensures.held g ∙ ap (λ (f : ℕ → Held). cond (has (makes c.args.plan.now c.args.task) g) (Stored c.args.size) (f g)) c.set_phase.ensures.held
