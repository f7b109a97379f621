use Rattle.std.proofs.Common.{◌≡◌, drop, map, []}
use Rattle.plan_core.specs.code.Tables.{are_unknown}
use Rattle.plan_core.specs.declared.plan.PlanSite.{PlanSite}
use Rattle.plan_core.proofs.tables.are_sites_distinct.Given as goal

abbrev pub invariant-loop-site : goal.invariant-loop-site
invariant-loop-site l = are_unknown l.known.keys (map (λ (s : PlanSite). s.name) (drop l.site-index l.sites)) ≡ are_unknown [] (map (λ (s : PlanSite). s.name) l.sites)
