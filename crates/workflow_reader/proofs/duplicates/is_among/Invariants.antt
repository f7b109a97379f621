use Rattle.std.proofs.Common.{◌≡◌, drop}
use Rattle.std.specs.List.{list_any}
use Rattle.workflow_reader.specs.Linking.{same_use}
use Rattle.workflow_reader.proofs.duplicates.is_among.Given as goal

abbrev pub invariant-loop-other : goal.invariant-loop-other
invariant-loop-other l = list_any (same_use l.used) (drop l.other-index l.others) ≡ list_any (same_use l.used) l.others
