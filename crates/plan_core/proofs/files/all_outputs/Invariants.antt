use Rattle.std.proofs.Common.{◌≡◌, ◌++◌, drop}
use Rattle.plan_core.specs.code.Files.{all_outputs}
use Rattle.plan_core.proofs.files.all_outputs.Given as goal

abbrev pub invariant-loop-job : goal.invariant-loop-job
invariant-loop-job l = l.files.items ++ all_outputs l.jobs (drop l.job-index l.some) ≡ all_outputs l.jobs l.some
