use Rattle.std.proofs.Common.{arith}
use Rattle.plan_core.specs.Words.{task_numbers}
use Rattle.storage_simulation.specs.code.Standings.{held_of}
use Rattle.storage_simulation.specs.Standings.{sizes}
use Rattle.storage_simulation.proofs.UsageLemmas.{weight_small}
use Rattle.storage_simulation.proofs.usage.part.Goals as goal

pub returns-then-lies_at-clause-small : goal.returns-then-lies_at-clause-small
returns-then-lies_at-clause-small c = omega (arith, c.weight.ensures, weight_small c.args.plan.now (sizes (held_of c.args.standing.now)) (task_numbers c.args.front.now) c.args.good c.requires.limits c.requires.standing.small)
