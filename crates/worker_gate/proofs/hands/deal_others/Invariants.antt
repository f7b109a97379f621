use Rattle.std.proofs.Common.{◌≡◌, ◌+◌, ◌++◌, length, map, vec_capacity}
use Rattle.ruled_lock.specs.Pass.{charter_of, seen_of}
use Rattle.worker_gate.specs.code.Hands.{AreOthers, IsDealt, member_of}
use Rattle.worker_gate.proofs.hands.deal_others.Given as goal

abbrev pub invariant-loop-alloc : goal.invariant-loop-alloc
invariant-loop-alloc g l =
    IsDealt l.lock (charter_of l.fn.first) (seen_of l.fn.first) 0 (length l.hands.items + 1) l.first
    × AreOthers l.lock (charter_of l.fn.first) (seen_of l.fn.first) l.hands.items
    × (map member_of l.hands.items ++ l.crew.items ≡ l.fn.crew.items)
    × (length l.hands.items + length l.crew.items ≡ length l.fn.crew.items)
    × (vec_capacity l.crew ≡ vec_capacity l.fn.crew)
    × (vec_capacity l.hands ≡ vec_capacity l.fn.hands)

abbrev pub decreases-loop-alloc : goal.decreases-loop-alloc
decreases-loop-alloc g l = length l.crew.items
