use Rattle.std.proofs.Common.{take}
use Rattle.std.specs.List.{All}
use Rattle.peak_tree.specs.Numbers.{StaysInRange}
use Rattle.integration_tests.proofs.peaks.all_stay.Given as goal

abbrev pub invariant-loop-position : goal.invariant-loop-position
invariant-loop-position l = All (StaysInRange l.delta) (take l.position l.tree)
