use Rattle.std.proofs.Common.{◌≡◌, ◌≤◌, ◌+◌, ◌-◌, drop}
use Rattle.std.specs.Prelude.{◌^◌, min}
use Rattle.ensemble.specs.Member.{count_jobs}
use Rattle.ensemble.proofs.counting.count_jobs.Given as goal

abbrev pub invariant-loop-member : goal.invariant-loop-member
invariant-loop-member l = (min (l.count + count_jobs (drop l.member-index l.members)) (2 ^ 64 - 1) ≡ min (count_jobs l.members) (2 ^ 64 - 1)) × (l.count ≤ 2 ^ 64 - 1)
