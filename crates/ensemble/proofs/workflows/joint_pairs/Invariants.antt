use Rattle.std.proofs.Common.{◌≡◌, ◌+◌, ◌++◌, drop}
use Rattle.ensemble.specs.Member.{count_jobs}
use Rattle.ensemble.specs.Workflows.{joint_pairs}
use Rattle.ensemble.proofs.workflows.joint_pairs.Given as goal

abbrev pub invariant-loop-member : goal.invariant-loop-member
invariant-loop-member l = (l.pairs.items ++ joint_pairs l.first (drop l.member-index l.members) ≡ joint_pairs 0 l.members) × (l.first + count_jobs (drop l.member-index l.members) ≡ count_jobs l.members)
