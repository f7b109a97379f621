use Rattle.std.proofs.Common.{◌≡◌, ◌++◌, drop}
use Rattle.std.specs.List.{filter}
use Rattle.toolbox.specs.Lines.{bytes_of, written}
use Rattle.toolbox.specs.Transformation.Holds.{stands_in}
use Rattle.toolbox.proofs.transformation.holds.matching_lines.Given as goal

abbrev pub invariant-loop-line : goal.invariant-loop-line
invariant-loop-line l = l.text.items ++ written (filter (stands_in l.pattern) (bytes_of (drop l.line-index l.lines))) ≡ written (filter (stands_in l.pattern) (bytes_of l.lines))
