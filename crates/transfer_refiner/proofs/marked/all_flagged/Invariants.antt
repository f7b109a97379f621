use Rattle.std.proofs.Common.{◌≡◌, ◌++◌, drop}
use Rattle.transfer_refiner.specs.code.Marked.{all_flagged}
use Rattle.transfer_refiner.proofs.marked.all_flagged.Given as goal

abbrev pub invariant-loop-job : goal.invariant-loop-job
invariant-loop-job l = l.files.items ++ all_flagged (drop l.job-index l.job-items) ≡ all_flagged l.workflow.jobs
