use Rattle.std.proofs.Common.{◌≡◌, [], drop}
use Rattle.plan_core.specs.code.Tasks.{in_sequence}
use Rattle.plan_core.proofs.tasks.in_sequence.Given as goal

abbrev pub invariant-loop-job : goal.invariant-loop-job
invariant-loop-job l = in_sequence l.jobs l.known.keys (drop l.job-index l.some) ≡ in_sequence l.jobs [] l.some
