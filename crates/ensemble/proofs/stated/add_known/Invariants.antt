use Rattle.std.proofs.Common.{◌≡◌, ◌++◌, drop}
use Rattle.ensemble.specs.Stated.{stated_tools}
use Rattle.ensemble.proofs.stated.add_known.Given as goal

abbrev pub invariant-loop-job : goal.invariant-loop-job
invariant-loop-job l = l.tools.items ++ stated_tools l.member l.known (drop l.job-index l.jobs) ≡ l.fn.tools.items ++ stated_tools l.member l.known l.jobs
