use Rattle.std.proofs.Common.{◌≡◌, ◌++◌, drop}
use Rattle.plan_core.specs.code.Rising.{without}
use Rattle.plan_core.proofs.rising.taken_out.Given as goal

abbrev pub invariant-loop-number : goal.invariant-loop-number
invariant-loop-number l = l.left.items ++ without (drop l.number-index l.numbers) l.others ≡ without l.numbers l.others
