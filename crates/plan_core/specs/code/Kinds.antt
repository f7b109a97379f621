-- Beside `specs/Kinds.antt`: what the code's own contracts say.
use Rattle.std.specs.Prelude.{ℕ, ◌==◌, Bool, false, List, Option, Some}
use Rattle.plan_core.specs.declared.plan.Plan.{Plan}
use Rattle.plan_core.specs.declared.plan.PlanJob.{PlanJob}
use Rattle.plan_core.specs.declared.plan.TaskKind.{TaskKind}
use Rattle.plan_core.specs.declared.plan.TaskKind.TheVariants.{Transfer, Run}
use Rattle.plan_core.specs.Words.{kind}
use Rattle.plan_core.specs.Kinds.{jobs_make}

-- the file that a task carries: what it writes, or delivers
abbrev pub kind_carries : List PlanJob → Option TaskKind → ℕ → Bool
kind_carries jobs (Some (Transfer g from to)) f = g.0 == f
kind_carries jobs (Some (Run a js)) f = jobs_make jobs js f
kind_carries jobs _ f = false

abbrev pub carries : Plan → ℕ → ℕ → Bool
carries p t f = kind_carries p.jobs (kind p t) f
