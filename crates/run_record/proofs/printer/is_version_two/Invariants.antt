use Rattle.std.proofs.Common.{◌≡◌, drop}
use Rattle.std.specs.List.{list_any}
use Rattle.run_record.specs.Events.{is_second}
use Rattle.run_record.proofs.printer.is_version_two.Given as goal

abbrev pub invariant-loop-k : goal.invariant-loop-k
invariant-loop-k l = list_any is_second (drop l.k l.history.events) ≡ list_any is_second l.history.events
