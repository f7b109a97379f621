use Rattle.std.proofs.Common.{◌≡◌, ℕ, ◌<◌, false}
use Rattle.dependency_graph.specs.code.Makers.{known, are_two}
use Rattle.dependency_graph.proofs.makers.contested.Given as goal

abbrev pub invariant-loop-i : goal.invariant-loop-i
invariant-loop-i l = (f : ℕ) → f < l.i → are_two (known l.table f) ≡ false
