use Rattle.std.proofs.Common.{◌≡◌, drop}
use Rattle.evaluation.specs.JobTools.{tools_of}
use Rattle.evaluation.proofs.RestLemmas.{front_then}
use Rattle.evaluation.proofs.job_tools.known_tools.Given as goal

abbrev pub invariant-loop-job : goal.invariant-loop-job
invariant-loop-job g l = front_then l.tools.items (tools_of g.T.Tool.known l.stated (drop l.job-index l.jobs)) ≡ tools_of g.T.Tool.known l.stated l.jobs
