use Rattle.std.proofs.Common.{◌≡◌, ◌||◌, ℕ, length, drop}
use Rattle.std.specs.List.{list_any}
use Rattle.workflow_core.specs.Requested.{requests, is_requested}
use Rattle.data_reuse.specs.code.Flags.{is_set}
use Rattle.data_reuse.proofs.flags.requested_files.Given as goal

abbrev pub invariant-loop-job : goal.invariant-loop-job
invariant-loop-job l = (length l.flags.items ≡ length l.workflow.files) × ((f : ℕ) → (list_any (requests f) (drop l.job-index l.job-items) || is_set l.flags.items f) ≡ is_requested l.workflow f)
