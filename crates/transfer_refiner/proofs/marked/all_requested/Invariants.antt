use Rattle.std.proofs.Common.{◌≡◌, ◌++◌, drop}
use Rattle.transfer_refiner.specs.code.Marked.{all_requested}
use Rattle.transfer_refiner.proofs.marked.all_requested.Given as goal

abbrev pub invariant-loop-job : goal.invariant-loop-job
invariant-loop-job l = l.files.items ++ all_requested (drop l.job-index l.job-items) ≡ all_requested l.workflow.jobs
