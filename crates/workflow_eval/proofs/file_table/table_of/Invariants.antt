use Rattle.std.proofs.Common.{◌≡◌, ◌++◌, drop}
use Rattle.workflow_eval.proofs.file_table.table_of.Given as goal

abbrev pub invariant-loop-bytes : goal.invariant-loop-bytes
invariant-loop-bytes l = l.table.items ++ drop l.bytes-index l.base ≡ l.base
