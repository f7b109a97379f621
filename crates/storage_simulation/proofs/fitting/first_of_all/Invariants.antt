use Rattle.plan_core.specs.Words.{task_numbers}
use Rattle.storage_simulation.specs.code.Past.{IsFound}
use Rattle.storage_simulation.specs.code.Standings.{held_of}
use Rattle.storage_simulation.specs.Standings.{sizes}
use Rattle.storage_simulation.proofs.fitting.first_of_all.Given as goal

abbrev pub invariant-loop-place : goal.invariant-loop-place
invariant-loop-place l = IsFound l.plan (sizes (held_of l.standing)) (task_numbers l.order) l.place l.found
