use Rattle.std.proofs.Common.{◌≡◌, ◌+◌, ◌<◌, ◌^◌, ℕ, true, sym, subst, arith}
use Rattle.plan_core.specs.declared.plan.Plan.{Plan}
use Rattle.plan_core.specs.Carried.{carried}
use Rattle.plan_core.specs.code.Kinds.{carries}
use Rattle.plan_core.specs.Words.{count_pairs, count_tasks}
use Rattle.planner.specs.Meaning.{value_of}
use Rattle.planner.specs.code.Planning.{draft}
use Rattle.planner.proofs.MeaningLemmas.{at_hand, replicas_hold, values_are, with_strategy}
use Rattle.planner.proofs.meaning.plans_mean_the_workflow.Goals as goal

pub returns : goal.returns
returns c r s limit p checked few formed graph planned apply told honest =
    let placed = planned.placed in
    let is = draft r s planned.sites planned.clusters in
    let are = c.placed_jobs_are_a_draft.ensures r s planned.sites planned.clusters formed graph checked placed in
    let fine = planned.fine.fine in
    let refined = planned.fine.refined in
    let below : limit < 2 ^ 32 = omega (arith, few) in
    let proper = c.refined_plan_is_proper.ensures is limit planned.bare are below fine refined in
    let small = c.refined_plan_is_small.ensures in
    let pairs = c.pairs_are_few.ensures planned.bare proper (small.sites is planned.bare are refined) (small.files is planned.bare are refined) in
    let counted = c.cleans_are_counted.ensures is limit planned.bare fine refined in
    let tasks : count_tasks planned.bare + count_pairs planned.bare < 2 ^ 32 = omega (arith, counted, few, pairs) in
    let hand = at_hand r s planned.sites planned.clusters placed.kept placed.levels placed.leveled (c.kept_jobs_are_clustered.ensures r.cluster s.workflow _ placed.kept planned.clusters placed.clustered) in
    let values = values_are apply told r s s.graph.ordered (c.values_flow_in_order.ensures s.workflow s.graph formed graph) in
    let held = replicas_hold apply told r s planned.sites planned.clusters honest in
    let means : (t f : ℕ) → carries planned.bare t f ≡ true → carried apply told planned.bare t f ≡ value_of apply told r s f =
    c.refined_plan_means_the_workflow.ensures apply told (value_of apply told r s) is limit planned.bare are below fine refined values held hand in
    subst (λ (q : Plan). (t f : ℕ) → carries q t f ≡ true → carried apply told q t f ≡ value_of apply told r s f) (sym planned.cleaned_is)
    (with_strategy (λ (q : Plan). (t f : ℕ) → carries q t f ≡ true → carried apply told q t f ≡ value_of apply told r s f) r.cleanup planned.bare means
    (c.cleaned_plan_means_the_same.ensures apply told (value_of apply told r s) planned.bare proper (small.cleans is planned.bare refined) tasks means))
