-- Beside `specs/Goods.antt`: what the code's own contracts say.
use Rattle.std.specs.Prelude.{ℕ, ◌≤◌, ◌^◌, ◌*◌, cond, Option, Some, None, is_some}
use Rattle.plan_core.specs.declared.plan.Plan.{Plan}
use Rattle.plan_core.specs.declared.plan.Pair.{Pair}
use Rattle.plan_core.specs.declared.plan.TaskKind.{TaskKind}
use Rattle.plan_core.specs.declared.plan.TaskKind.TheVariants.{Transfer, Run, Clean}
use Rattle.plan_core.specs.declared.plan.Target.TheVariants.{Delivery, Site}
use Rattle.plan_core.specs.Words.{count_pairs, count_tasks, declared, kind, output_bound, pair}
use Rattle.storage_simulation.specs.Goods.{or_zero, count_sites}

-- The place at which a task changes usage: the site of a Run, of a transfer to a site and of the pair of a Clean, and
-- the output for a delivery where the output has a bound.
abbrev pub pair_site : Option Pair → Option ℕ
pair_site None = None
pair_site (Some q) = Some q.site.0

abbrev pub kind_place : Plan → Option TaskKind → Option ℕ
kind_place p None = None
kind_place p (Some (Transfer f from (Site s))) = Some s.0
kind_place p (Some (Transfer f from Delivery)) = cond (is_some (output_bound p)) (Some (count_sites p)) None
kind_place p (Some (Run s js)) = Some s.0
kind_place p (Some (Clean q)) = pair_site (pair p q.0)

unfoldable pub place : Plan → ℕ → Option ℕ
place p t = kind_place p (kind p t)

-- the limits of a plan
pub record IsWithinLimits (p : Plan) : Type 0 where
  pub sites : count_sites p ≤ 64
  pub pairs : count_pairs p ≤ 64 * 50000
  pub tasks : count_tasks p ≤ 120000
  pub sizes : (f : ℕ) → or_zero (declared p f) ≤ 2 ^ 40
