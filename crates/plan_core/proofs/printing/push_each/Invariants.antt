use Rattle.std.proofs.Common.{◌≡◌, ◌++◌, drop}
use Rattle.plan_core.specs.code.Printing.{numbered}
use Rattle.plan_core.proofs.printing.push_each.Given as goal

abbrev pub invariant-loop-number : goal.invariant-loop-number
invariant-loop-number g l = l.text.items ++ numbered (g.T.HasLine.line l.pairs) l.number (drop l.number l.all) ≡ l.fn.text.items ++ numbered (g.T.HasLine.line l.pairs) 0 l.all
