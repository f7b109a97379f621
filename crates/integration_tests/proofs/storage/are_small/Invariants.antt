use Rattle.std.proofs.Common.{ℕ, ◌<◌, ◌≤◌, ◌^◌}
use Rattle.storage_simulation.specs.declared.standing.Held.TheVariants.{Nothing}
use Rattle.storage_simulation.specs.code.Standings.{at_in}
use Rattle.storage_simulation.specs.Standings.{held_size}
use Rattle.integration_tests.proofs.storage.are_small.Given as goal

abbrev pub invariant-loop-one : goal.invariant-loop-one
invariant-loop-one l = (g : ℕ) → g < l.one-index → held_size (at_in Nothing l.held g) ≤ 2 ^ 40
