use Rattle.std.proofs.Common.{ℕ, ◌<◌}
use Rattle.storage_simulation.specs.code.Front.{front_of}
use Rattle.storage_simulation.specs.code.Ordering.{progress, IsOpen}
use Rattle.storage_simulation.proofs.choosing.lowest_open.Given as goal

abbrev pub invariant-loop-number : goal.invariant-loop-number
invariant-loop-number l = (u : ℕ) → u < l.number → IsOpen l.plan (progress l.standing) (front_of l.front) u → ⊥
