use Rattle.std.proofs.Common.{◌≡◌, ◌++◌, drop, map}
use Rattle.run_record.specs.RecordText.{Size, spaced}
use Rattle.run_record.proofs.printer.push_sizes.Given as goal

abbrev pub invariant-loop-size : goal.invariant-loop-size
invariant-loop-size l = l.text.items ++ spaced (map Size (drop l.size-index l.sizes)) ≡ l.fn.text.items ++ spaced (map Size l.sizes)
