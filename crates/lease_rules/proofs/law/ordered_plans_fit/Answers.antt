use Rattle.plan_core.specs.Words.{task_numbers}
use Rattle.storage_simulation.specs.declared.ordered.Ordered.{Ordered}
use Rattle.lease_rules.proofs.SoundLemmas.{order_all}
use Rattle.lease_rules.proofs.law.ordered_plans_fit.Goals as goal

pub returns : goal.returns
returns c = λ (o : Ordered). order_all o.plan (task_numbers o.tasks.items) o.fits o.order
