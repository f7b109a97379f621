use Rattle.std.proofs.Common.{◌≡◌, ◌+◌, ◌≤◌, ◌||◌, ℕ, true, drop, length}
use Rattle.std.specs.Prelude.{is_some}
use Rattle.plan_core.specs.Carried.{after_jobs}
use Rattle.plan_core.specs.Kinds.{jobs_make}
use Rattle.plan_core.specs.code.Declined.{declined_among}
use Rattle.task_work.specs.Table.{at}
use Rattle.task_work.proofs.running.run_jobs.Given as goal

abbrev pub invariant-loop-number : goal.invariant-loop-number
invariant-loop-number g l =
    (declined_among g.T.Tool.apply l.plan.jobs (drop l.number-index l.jobs) (at l.table) ≡ declined_among g.T.Tool.apply l.plan.jobs l.jobs (at l.initial.table))
    × ((f : ℕ) → after_jobs g.T.Tool.apply l.plan.jobs (drop l.number-index l.jobs) (at l.table) f ≡ after_jobs g.T.Tool.apply l.plan.jobs l.jobs (at l.initial.table) f)
    × ((f : ℕ) → jobs_make l.plan.jobs l.jobs f ≡ true → (is_some (at l.table f) || jobs_make l.plan.jobs (drop l.number-index l.jobs) f) ≡ true)
    × (g.T.Tool.faults l.initial.tool ≤ g.T.Tool.faults l.tool)
    × (g.T.Tool.runs l.tool + length (drop l.number-index l.jobs) ≤ g.T.Tool.runs l.initial.tool + length l.jobs)
