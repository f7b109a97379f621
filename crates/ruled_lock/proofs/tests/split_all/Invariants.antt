use Rattle.std.proofs.Common.{◌≡◌, ◌+◌, ◌≤◌, vec_len}
use Rattle.std.specs.Prelude.{All, vec_capacity}
use Rattle.ruled_lock.specs.Pass.{count_of, IsIdle}
use Rattle.ruled_lock.specs.Lock.{IsOf}
use Rattle.ruled_lock.proofs.tests.split_all.Given as goal

abbrev pub invariant-loop : goal.invariant-loop
invariant-loop l = IsOf l.lock l.first × IsIdle l.first × (count_of l.first ≡ l.counter) × All (λ p. IsOf l.lock p × IsIdle p) l.passes.items × (vec_len l.passes + 1 ≡ l.counter) × (16 ≤ vec_capacity l.passes)
