use Rattle.std.proofs.Common.{vec_len}
use Rattle.std.specs.Prelude.{All}
use Rattle.ruled_lock.specs.Pass.{IsIdle}
use Rattle.ruled_lock.specs.Lock.{IsOf}
use Rattle.ruled_lock.proofs.tests.join_all.Given as goal

abbrev pub invariant-loop-pass : goal.invariant-loop-pass
invariant-loop-pass l = IsOf l.lock l.first × IsIdle l.first × All (λ p. IsOf l.lock p × IsIdle p) l.passes.items

abbrev pub decreases-loop-pass : goal.decreases-loop-pass
decreases-loop-pass l = vec_len l.passes
