use Rattle.std.proofs.Common.{◌≡◌, ◌++◌, map}
use Rattle.std.specs.Vec.Iter.{into_iter_items}
use Rattle.workflow_reader.specs.Linking.{linked_job}
use Rattle.workflow_reader.proofs.job_linking.linked_jobs.Given as goal

abbrev pub invariant-loop-job : goal.invariant-loop-job
invariant-loop-job l = l.linked.items ++ map (linked_job l.files) (into_iter_items l.job-iterator) ≡ map (linked_job l.files) l.fn.jobs.items
