use Rattle.std.proofs.Common.{◌≡◌, ◌≤◌, ◌+◌, ◌-◌, drop}
use Rattle.std.specs.Prelude.{◌^◌, min}
use Rattle.ensemble.specs.Member.{count_files}
use Rattle.ensemble.proofs.counting.count_files.Given as goal

abbrev pub invariant-loop-member : goal.invariant-loop-member
invariant-loop-member l = (min (l.count + count_files (drop l.member-index l.members)) (2 ^ 64 - 1) ≡ min (count_files l.members) (2 ^ 64 - 1)) × (l.count ≤ 2 ^ 64 - 1)
