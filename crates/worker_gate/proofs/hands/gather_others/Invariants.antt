use Rattle.std.proofs.Common.{◌≡◌, ◌+◌, ◌++◌, ◌≤◌, length, map, vec_capacity}
use mathlib.Core.List.{IsPrefix}
use Rattle.ruled_lock.specs.Lock.{IsOf}
use Rattle.ruled_lock.specs.Pass.{IsIdle, charter_of, count_of, joined_of, mine_of, seen_of, worker_of}
use Rattle.worker_gate.specs.code.Hands.{AreReadyToJoin, member_of, own_list}
use Rattle.worker_gate.proofs.HandsLemmas.{HaveSome}
use Rattle.worker_gate.proofs.hands.gather_others.Given as goal

abbrev pub invariant-loop-hands : goal.invariant-loop-hands
invariant-loop-hands g l =
    IsOf l.lock l.first
    × IsIdle l.first
    × AreReadyToJoin l.lock l.hands.items
    × (worker_of l.first ≡ worker_of l.fn.first)
    × (charter_of l.first ≡ charter_of l.fn.first)
    × (mine_of l.first ≡ mine_of l.fn.first)
    × IsPrefix (seen_of l.fn.first) (seen_of l.first)
    × (count_of l.first ≡ count_of l.fn.first)
    × (joined_of l.first ++ map own_list l.hands.items ≡ joined_of l.fn.first ++ map own_list l.fn.hands.items)
    × (l.crew.items ++ map member_of l.hands.items ≡ l.fn.crew.items ++ map member_of l.fn.hands.items)
    × (length l.crew.items + length l.hands.items ≤ vec_capacity l.crew)
    × HaveSome l.fn.hands.items l.hands.items l.first

abbrev pub decreases-loop-hands : goal.decreases-loop-hands
decreases-loop-hands g l = length l.hands.items
