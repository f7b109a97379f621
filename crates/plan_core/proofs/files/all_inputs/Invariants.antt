use Rattle.std.proofs.Common.{◌≡◌, ◌++◌, drop}
use Rattle.plan_core.specs.code.Files.{all_inputs}
use Rattle.plan_core.proofs.files.all_inputs.Given as goal

abbrev pub invariant-loop-job : goal.invariant-loop-job
invariant-loop-job l = l.files.items ++ all_inputs l.jobs (drop l.job-index l.some) ≡ all_inputs l.jobs l.some
