use Rattle.std.proofs.Common.{◌≡◌, drop, length}
use Rattle.std.specs.Prelude.{replicate, None}
use Rattle.workflow_reader.specs.code.Known.{with_sizes}
use Rattle.workflow_reader.specs.Linking.{uses_of}
use Rattle.workflow_reader.proofs.files.sizes_of.Given as goal

abbrev pub invariant-loop-job : goal.invariant-loop-job
invariant-loop-job l = with_sizes l.files l.sizes.items (uses_of (drop l.job-index l.jobs)) ≡ with_sizes l.files (replicate (length l.files) None) (uses_of l.jobs)
