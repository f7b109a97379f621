use Rattle.std.proofs.Common.{◌≡◌, drop}
use Rattle.plan_run.specs.RunText.{placed}
use Rattle.plan_run.proofs.run_text.table_of.Given as goal

abbrev pub invariant-loop-one : goal.invariant-loop-one
invariant-loop-one l = placed (drop l.one-index l.delivered) l.table.items ≡ placed l.delivered l.initial.table.items
