use Rattle.std.proofs.Common.{◌≡◌}
use Rattle.ruled_lock.proofs.LockLemmas.{Waiting}
use Rattle.ruled_lock.proofs.lock.RuledLock.wait_for_turn.Given as goal

abbrev pub invariant-loop : goal.invariant-loop
invariant-loop g l = (l.seat.table_id ≡ l.fn.seat.table_id) × Waiting g.C.Chronicle.charter g.C.Chronicle.journal g.C.Chronicle.author l.fn.seat.me.0 l.ticket l.seat.me
