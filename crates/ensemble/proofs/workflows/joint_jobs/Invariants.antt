use Rattle.std.proofs.Common.{◌≡◌, ◌+◌, ◌++◌, drop}
use Rattle.ensemble.specs.Member.{count_files}
use Rattle.ensemble.specs.Workflows.{joint_jobs}
use Rattle.ensemble.proofs.workflows.joint_jobs.Given as goal

abbrev pub invariant-loop-member : goal.invariant-loop-member
invariant-loop-member l = (l.jobs.items ++ joint_jobs l.first (drop l.member-index l.members) ≡ joint_jobs 0 l.members) × (l.first + count_files (drop l.member-index l.members) ≡ count_files l.members)
