use Rattle.std.proofs.Common.{◌≡◌, ◌∙◌, ℕ, List, length, get_or, sym, ap, subst, arith}
use Rattle.std.specs.Prelude.{Result, Ok, Err, Some, slice_get}
use Rattle.std.proofs.lemmas.Option.{slice_get-get_or}
use Rattle.values.specs.declared.numbers.SiteId.{SiteId}
use Rattle.workflow_core.specs.declared.workflow.Job.{Job}
use Rattle.plan_request.specs.declared.request.Execution.{Execution}
use Rattle.values.specs.declared.select_fault.SelectFault.{SelectFault}
use Rattle.dependency_graph.specs.Ranking.{IsRanked}
use Rattle.site_selector.specs.code.Offers.{Offered}
use Rattle.site_selector.specs.Candidates.{selected_site}
use Rattle.site_selector.specs.code.Candidates.{IsAnswer}
use Rattle.site_selector.specs.Selecting.{selection}
use Rattle.site_selector.proofs.OfferLemmas.{checked_are}
use Rattle.site_selector.proofs.SelectingLemmas.{ArePlaced, number_below, place_more, handed_on, refused_is, selected_is}
use Rattle.site_selector.proofs.selecting.select.Goals as goal

pub bounds-jobs-number : goal.bounds-jobs-number
bounds-jobs-number c =
    let order = c.deref-number-items.result.now in
    let sorted : IsRanked c.args.kept.now c.args.levels.now order = subst (IsRanked c.args.kept.now c.args.levels.now) (sym c.deref-number-items.ensures.value) c.in_ok-order.ensures in
    let long = ap (λ (js : List Job). length js) c.as_slice-jobs.ensures in
    number_below c.args.kept.now c.args.levels.now order c.loop-turn.turn (length c.as_slice-jobs.result.now) sorted (c.requires.kept ∙ sym long) c.loop-turn-test.true

pub site_of-requires : goal.site_of-requires
site_of-requires c =
    let few = (checked_are c.args.request.now.execute c.requires.sites).few in
    let same = ap (λ (o : Offered). length o.execute) c.in_ok-offers.ensures ∙ ap (λ (es : List Execution). length es) c.as_slice.ensures in
    record { few = omega (arith, few, same) }

pub index_mut-requires : goal.index_mut-requires
index_mut-requires c =
    let order = c.deref-number-items.result.now in
    let sorted : IsRanked c.args.kept.now c.args.levels.now order = subst (IsRanked c.args.kept.now c.args.levels.now) (sym c.deref-number-items.ensures.value) c.in_ok-order.ensures in
    let below = number_below c.args.kept.now c.args.levels.now order c.loop-turn.turn (length c.args.workflow.now.jobs) sorted c.requires.kept c.loop-turn-test.true in
    omega (arith, below, c.loop-turn.invariant.long, c.loop-turn.sites.ok)

pub loop-turn-preserved : goal.loop-turn-preserved
loop-turn-preserved c =
    let order = c.deref-number-items.result.now in
    let job = c.index-jobs-number.result in
    let number : ℕ = get_or order c.loop-turn.turn 0 in
    let sorted : IsRanked c.args.kept.now c.args.levels.now order = subst (IsRanked c.args.kept.now c.args.levels.now) (sym c.deref-number-items.ensures.value) c.in_ok-order.ensures in
    let below = number_below c.args.kept.now c.args.levels.now order c.loop-turn.turn (length c.args.workflow.now.jobs) sorted c.requires.kept c.loop-turn-test.true in
    let at : slice_get c.args.workflow.now.jobs number ≡ Some job =
    slice_get-get_or c.args.workflow.now.jobs number job below ∙ ap (λ (j : Job). Some j) (ap (λ (js : List Job). get_or js number job) (sym c.as_slice-jobs.ensures) ∙ sym c.index-jobs-number.is) in
    let answer : selected_site c.args.request.now.execute c.args.transformations.now.entries c.loop-turn.turn number job ≡ Ok c.in_ok-site.site =
    ap (λ (es : List Execution). selected_site es c.args.transformations.now.entries c.loop-turn.turn number job) (sym c.as_slice.ensures)
    ∙ sym (ap (λ (o : Offered). selected_site o.execute o.entries c.loop-turn.turn number job) c.in_ok-offers.ensures)
    ∙ c.in_ok-site.ensures in
    place_more (selection c.args.workflow.now c.args.kept.now c.args.levels.now c.args.request.now c.args.transformations.now) order c.loop-turn.sites.items c.loop-turn.turn job c.in_ok-site.site c.requires.kept sorted c.loop-turn.invariant (record { below = c.loop-turn-test.true; at = at; answer = answer })

pub returns-in_err-site : goal.returns-in_err-site
returns-in_err-site c =
    let order = c.deref-number-items.result.now in
    let now = selection c.args.workflow.now c.args.kept.now c.args.levels.now c.args.request.now c.args.transformations.now in
    let job = c.index-jobs-number.result in
    let number : ℕ = get_or order c.loop-turn.turn 0 in
    let sorted : IsRanked c.args.kept.now c.args.levels.now order = subst (IsRanked c.args.kept.now c.args.levels.now) (sym c.deref-number-items.ensures.value) c.in_ok-order.ensures in
    let below = number_below c.args.kept.now c.args.levels.now order c.loop-turn.turn (length c.args.workflow.now.jobs) sorted c.requires.kept c.loop-turn-test.true in
    let at : slice_get c.args.workflow.now.jobs number ≡ Some job =
    slice_get-get_or c.args.workflow.now.jobs number job below ∙ ap (λ (j : Job). Some j) (ap (λ (js : List Job). get_or js number job) (sym c.as_slice-jobs.ensures) ∙ sym c.index-jobs-number.is) in
    let answer =
    ap (λ (es : List Execution). selected_site es c.args.transformations.now.entries c.loop-turn.turn number job) (sym c.as_slice.ensures)
    ∙ sym (ap (λ (o : Offered). selected_site o.execute o.entries c.loop-turn.turn number job) c.in_ok-offers.ensures) in
    handed_on now c.from_residual-in_err-site.result c.in_err-site.field-0.0 c.from_residual-in_err-site.ensures.1
    (refused_is now order c.loop-turn.sites.items c.loop-turn.turn job c.in_err-site.field-0.0 sorted c.loop-turn.invariant c.loop-turn-test.true at
    (subst (λ (r : Result SiteId SelectFault). IsAnswer r (Err c.in_err-site.field-0.0)) (sym answer) c.in_err-site.ensures))

pub returns : goal.returns
returns c =
    let order = c.deref-number-items.result.now in
    let now = selection c.args.workflow.now c.args.kept.now c.args.levels.now c.args.request.now c.args.transformations.now in
    let sorted : IsRanked c.args.kept.now c.args.levels.now order = subst (IsRanked c.args.kept.now c.args.levels.now) (sym c.deref-number-items.ensures.value) c.in_ok-order.ensures in
    let end : c.loop-turn.turn ≡ length order = omega (arith, c.loop-turn-test.false, c.loop-turn.auto.turn-end) in
    selected_is now order c.loop-turn.sites.items sorted (subst (λ (n : ℕ). ArePlaced now order c.loop-turn.sites.items n) end c.loop-turn.invariant)
