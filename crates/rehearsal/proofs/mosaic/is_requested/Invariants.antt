use Rattle.std.proofs.Common.{◌≡◌, drop}
use Rattle.std.specs.List.{list_any}
use Rattle.workflow_core.specs.Requested.{requests}
use Rattle.rehearsal.proofs.mosaic.is_requested.Given as goal

abbrev pub invariant-loop-job : goal.invariant-loop-job
invariant-loop-job l = list_any (requests l.file.0) (drop l.job-index l.jobs) ≡ list_any (requests l.file.0) l.jobs
