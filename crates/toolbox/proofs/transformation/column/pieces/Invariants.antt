use Rattle.std.proofs.Common.{◌≡◌, ◌++◌, drop, map}
use Rattle.toolbox.specs.Lines.{bytes_of, written}
use Rattle.toolbox.specs.Transformation.Column.{piece}
use Rattle.toolbox.proofs.transformation.column.pieces.Given as goal

abbrev pub invariant-loop-line : goal.invariant-loop-line
invariant-loop-line l = l.text.items ++ written (map (piece l.place) (bytes_of (drop l.line-index l.lines))) ≡ written (map (piece l.place) (bytes_of l.lines))
