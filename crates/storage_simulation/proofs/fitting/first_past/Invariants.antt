use Rattle.std.proofs.Common.{◌≡◌, take}
use Rattle.plan_core.specs.Words.{task_numbers}
use Rattle.storage_simulation.specs.code.Past.{KeepsBound}
use Rattle.storage_simulation.specs.code.Standings.{held_of}
use Rattle.storage_simulation.specs.Standings.{sizes}
use Rattle.storage_simulation.specs.Usage.{usage}
use Rattle.storage_simulation.proofs.fitting.first_past.Given as goal

abbrev pub invariant-loop-position : goal.invariant-loop-position
invariant-loop-position l = (l.sum ≡ usage l.plan (sizes (held_of l.standing)) (take l.position (task_numbers l.order)) l.place) × KeepsBound l.plan (sizes (held_of l.standing)) (task_numbers l.order) l.place l.position
