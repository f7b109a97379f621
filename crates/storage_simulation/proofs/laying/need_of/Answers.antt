use Rattle.storage_simulation.specs.code.Change.{held_part, size_part}
use Rattle.storage_simulation.specs.code.Ordering.{progress}
use Rattle.storage_simulation.specs.Ordering.{size}
use Rattle.storage_simulation.proofs.SpotLemmas.{held_small, made_small, size_small}
use Rattle.storage_simulation.proofs.laying.need_of.Goals as goal

pub need_at-requires-clause-few_sizes : goal.need_at-requires-clause-few_sizes
need_at-requires-clause-few_sizes c = made_small c.args.plan.now c.args.task.0 (size_part c.args.plan.now c.in-Some.place) c.requires.orderable c.requires.limits (λ g. size_small c.args.plan.now c.in-Some.place g c.requires.limits)

pub need_at-requires-clause-few_held : goal.need_at-requires-clause-few_held
need_at-requires-clause-few_held c = made_small c.args.plan.now c.args.task.0 (held_part c.args.plan.now (size (progress c.args.standing.now)) c.in-Some.place) c.requires.orderable c.requires.limits (λ g. held_small c.args.plan.now (size (progress c.args.standing.now)) c.in-Some.place g c.requires.standing.small)
