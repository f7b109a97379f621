use Rattle.std.proofs.Common.{◌≡◌, drop}
use Rattle.dependency_graph.specs.code.Graph.{job_lists}
use Rattle.clustering.specs.code.Labels.{first_apart}
use Rattle.clustering.proofs.by_label.check_sites.Given as goal

abbrev pub invariant-loop-job : goal.invariant-loop-job
invariant-loop-job l = first_apart l.basis (job_lists l.parts) (drop l.job-index l.jobs) ≡ first_apart l.basis (job_lists l.parts) l.jobs
