use Rattle.std.proofs.Common.{◌≡◌, ◌++◌}
use Rattle.std.specs.Prelude.{not, vec_capacity}
use Rattle.plan_core.specs.Numbers.{below}
use Rattle.plan_core.specs.Words.{task_numbers}
use Rattle.place_peaks.specs.Peaks.{is_left}
use Rattle.place_peaks.proofs.renewing.add_others.Given as goal

abbrev pub invariant-loop-task : goal.invariant-loop-task
invariant-loop-task l = (task_numbers l.line.items ≡ task_numbers l.initial.line.items ++ below l.task (λ u. not (is_left l.left u))) × (vec_capacity l.line ≡ vec_capacity l.initial.line)
