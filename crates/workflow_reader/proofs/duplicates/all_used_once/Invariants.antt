use Rattle.std.proofs.Common.{◌≡◌, drop}
use Rattle.workflow_reader.specs.Linking.{all_used_once}
use Rattle.workflow_reader.proofs.duplicates.all_used_once.Given as goal

abbrev pub invariant-loop-job : goal.invariant-loop-job
invariant-loop-job l = all_used_once (drop l.job-index l.jobs) ≡ all_used_once l.jobs
