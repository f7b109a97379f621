use Rattle.std.proofs.Common.{◌≡◌, length}
use Rattle.cases.proofs.preparing.push_members.Given as goal

abbrev pub invariant-loop-member : goal.invariant-loop-member
invariant-loop-member l = length l.crew.items ≡ l.member
