use Rattle.std.proofs.Common.{◌+◌, ◌<◌, ◌≤◌, ◌^◌, sym, subst, arith}
use Rattle.plan_core.specs.code.Proper.{IsProper}
use Rattle.plan_core.specs.Words.{count_pairs, count_tasks}
use Rattle.storage_simulation.specs.code.Goods.{IsWithinLimits}
use Rattle.transfer_refiner.specs.code.Tasks.{count_cleans}
use Rattle.cleanup_refiner.specs.Cleans.{with_cleanup}
use Rattle.planner.specs.code.Planning.{draft}
use Rattle.planner.proofs.LawLemmas.{IsSmall, cleaned_limits, cleaned_proper}
use Rattle.planner.proofs.law.plans_can_be_ordered.Goals as goal

proper_with : goal.returns-clause-proper
proper_with c r s limit p formed graph checked few planned =
    let d = draft r s planned.sites planned.clusters in
    let is = c.placed_jobs_are_a_draft.ensures r s planned.sites planned.clusters formed graph checked planned.placed in
    let fine = planned.fine.fine in
    let refined = planned.fine.refined in
    let below : limit < 2 ^ 32 = omega (arith, few) in
    let bare = c.refined_plan_is_proper.ensures d limit planned.bare is below fine refined in
    let counted = c.cleans_are_counted.ensures d limit planned.bare fine refined in
    let tasks : count_tasks planned.bare + count_cleans r.cleanup (count_pairs planned.bare) ≤ 120000 = omega (arith, counted, few) in
    subst IsProper (sym planned.cleaned_is) (cleaned_proper r.cleanup planned.bare bare (c.refined_plan_is_small.ensures.cleans d planned.bare refined) tasks c.cleaned_plan_is_proper.ensures)

pub returns-clause-proper : goal.returns-clause-proper
returns-clause-proper c = proper_with c

pub returns-clause-limits : goal.returns-clause-limits
returns-clause-limits c r s limit p formed graph checked sizes few planned =
    let d = draft r s planned.sites planned.clusters in
    let is = c.placed_jobs_are_a_draft.ensures r s planned.sites planned.clusters formed graph checked planned.placed in
    let fine = planned.fine.fine in
    let refined = planned.fine.refined in
    let counted = c.cleans_are_counted.ensures d limit planned.bare fine refined in
    let tasks : count_tasks planned.bare + count_cleans r.cleanup (count_pairs planned.bare) ≤ 120000 = omega (arith, counted, few) in
    let small : IsSmall planned.bare = record {
      sites = c.refined_plan_is_small.ensures.sites d planned.bare is refined;
      files = c.refined_plan_is_small.ensures.files d planned.bare is refined;
      sizes = c.refined_plan_is_small.ensures.sizes d planned.bare is sizes refined;
    } in
    let proper : IsProper (with_cleanup r.cleanup planned.bare) = subst IsProper planned.cleaned_is (proper_with c r s limit p formed graph checked few planned) in
    subst IsWithinLimits (sym planned.cleaned_is) (cleaned_limits r.cleanup planned.bare small proper tasks c.pairs_are_few.ensures)
