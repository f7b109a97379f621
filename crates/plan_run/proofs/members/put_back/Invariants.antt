use Rattle.std.proofs.Common.{◌≡◌, ◌+◌, ◌≤◌, ◌++◌, length, vec_capacity}
use Rattle.plan_run.proofs.members.put_back.Given as goal

abbrev pub invariant-loop-member : goal.invariant-loop-member
invariant-loop-member g l =
    (l.members.items ++ l.crew.items ≡ l.initial.members.items ++ l.fn.crew.items)
    × (length l.members.items + length l.crew.items ≤ vec_capacity l.crew)

abbrev pub decreases-loop-member : goal.decreases-loop-member
decreases-loop-member g l = length l.members.items
