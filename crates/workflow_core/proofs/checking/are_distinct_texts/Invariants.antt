use Rattle.std.proofs.Common.{◌≡◌, drop}
use Rattle.std.specs.Str.{bytes_eq}
use Rattle.workflow_core.specs.code.WellFormed.{are_new, are_distinct}
use Rattle.workflow_core.proofs.checking.are_distinct_texts.Given as goal

abbrev pub invariant-loop-text : goal.invariant-loop-text
invariant-loop-text l = are_new bytes_eq l.known (drop l.text-index l.texts) ≡ are_distinct bytes_eq l.texts
