use Rattle.std.proofs.Common.{◌≡◌, ◌++◌, drop}
use Rattle.plan_run.specs.RunText.{lines_in}
use Rattle.plan_run.proofs.run_text.push_lines.Given as goal

abbrev pub invariant-loop-delivered : goal.invariant-loop-delivered
invariant-loop-delivered l = l.text.items ++ lines_in l.plan (drop l.delivered-index l.table) ≡ l.initial.text.items ++ lines_in l.plan l.table
