use Rattle.std.proofs.Common.{◌≡◌, ◌++◌, drop}
use Rattle.std.specs.List.{flat_map}
use Rattle.transfer_refiner.specs.code.Edges.{job_edges}
use Rattle.transfer_refiner.proofs.edges.push_part.Given as goal

abbrev pub invariant-loop-job : goal.invariant-loop-job
invariant-loop-job l = l.edges.items ++ flat_map (job_edges l.view.workflow.now l.site) (drop l.job-index l.jobs) ≡ l.fn.edges.items ++ flat_map (job_edges l.view.workflow.now l.site) l.jobs
