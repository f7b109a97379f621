use Rattle.ruled_lock.specs.Pass.{IsIdle}
use Rattle.ruled_lock.specs.Lock.{IsOf}
use Rattle.ruled_lock.proofs.tests.go_round.Given as goal

abbrev pub invariant-loop : goal.invariant-loop
invariant-loop g l = IsOf l.lock l.pass × IsIdle l.pass
