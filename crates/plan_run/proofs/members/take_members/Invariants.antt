use Rattle.std.proofs.Common.{◌≡◌, ◌+◌, ◌≤◌, drop, length, take, vec_capacity}
use Rattle.plan_run.proofs.members.take_members.Given as goal

abbrev pub invariant-loop-member : goal.invariant-loop-member
invariant-loop-member g l =
    (l.members.items ≡ take l.member l.fn.crew.items)
    × (l.crew.items ≡ drop l.member l.fn.crew.items)
    × (length l.members.items ≡ l.member)
    × (length l.crew.items + l.member ≡ length l.fn.crew.items)
    × (l.count ≤ vec_capacity l.members)
    × (vec_capacity l.crew ≡ vec_capacity l.fn.crew)
