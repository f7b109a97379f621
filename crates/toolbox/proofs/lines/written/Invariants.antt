use Rattle.std.proofs.Common.{◌≡◌, ◌++◌, drop}
use Rattle.toolbox.specs.Lines.{bytes_of, written}
use Rattle.toolbox.proofs.lines.written.Given as goal

abbrev pub invariant-loop-line : goal.invariant-loop-line
invariant-loop-line l = l.text.items ++ written (bytes_of (drop l.line-index l.lines)) ≡ written (bytes_of l.lines)
