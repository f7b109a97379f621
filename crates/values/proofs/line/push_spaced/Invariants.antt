use Rattle.std.proofs.Common.{◌≡◌, ◌++◌, drop}
use Rattle.values.specs.code.Line.{spaced_names}
use Rattle.values.proofs.line.push_spaced.Given as goal

abbrev pub invariant-loop-name : goal.invariant-loop-name
invariant-loop-name l = l.text.items ++ spaced_names (drop l.name-index l.names) ≡ l.fn.text.items ++ spaced_names l.names
