use Rattle.std.proofs.Common.{◌≡◌, take}
use Rattle.transfer_refiner.specs.Tasks.{jobs_of}
use Rattle.transfer_refiner.proofs.copying.planned_jobs.Given as goal

abbrev pub invariant-loop-i : goal.invariant-loop-i
invariant-loop-i l = l.planned.items ≡ jobs_of l.tools (take l.i l.jobs) (take l.i l.sites)
