use Rattle.std.proofs.Common.{◌≡◌, ◌++◌, drop, map}
use Rattle.std.specs.List.{concat}
use Rattle.run_record.specs.RecordText.{entry_line}
use Rattle.run_record.proofs.printer.push_entries.Given as goal

abbrev pub invariant-loop-k : goal.invariant-loop-k
invariant-loop-k l = l.text.items ++ concat (map entry_line (drop l.k l.history.events)) ≡ l.fn.text.items ++ concat (map entry_line l.history.events)
