use Rattle.std.proofs.Common.{◌≡◌, ℕ, ◌<◌, length, take}
use Rattle.dependency_graph.specs.Edges.{makers_from}
use Rattle.dependency_graph.specs.code.Makers.{known, first_two}
use Rattle.dependency_graph.proofs.makers.makers_of.Given as goal

abbrev pub invariant-loop-i : goal.invariant-loop-i
invariant-loop-i l = (length l.table.items ≡ l.files) × ((f : ℕ) → f < l.files → known l.table.items f ≡ first_two (makers_from f 0 (take l.i l.jobs)))
