use Rattle.std.proofs.Common.{ℕ, true, length, ap, ◌∙◌}
use Rattle.std.specs.Prelude.{replicate}
use Rattle.plan_core.specs.Words.{task_numbers}
use Rattle.storage_simulation.specs.code.Standings.{held_of}
use Rattle.storage_simulation.specs.Standings.{held_size, sizes}
use Rattle.place_peaks.proofs.OpeningLemmas.{made_small, opened_by, parents_few, walk_first}
use Rattle.place_peaks.proofs.peaks.Peaks.make.Goals as goal

pub needs_of-requires-clause-few : goal.needs_of-requires-clause-few
needs_of-requires-clause-few c =
    let rules = c.plans_have_rules.ensures c.args.plan.now c.requires.proper in
    λ t q at. made_small c.args.plan.now c.requires.limits (λ size front place small. c.sums_are_small.ensures c.args.plan.now size front place c.requires.limits small) rules.keeps t q (rules.one.place_below t q at)

pub missing_of-requires-clause-few : goal.missing_of-requires-clause-few
missing_of-requires-clause-few c = parents_few c.args.plan.now c.requires.proper (λ t u. c.parents_come_before.ensures.in_range c.args.plan.now c.requires.proper t u)

pub seating_of-requires-clause-one : goal.seating_of-requires-clause-one
seating_of-requires-clause-one c = (c.plans_have_rules.ensures c.args.plan.now c.requires.proper).one

pub new-requires-clause-one : goal.new-requires-clause-one
new-requires-clause-one c = (c.plans_have_rules.ensures c.args.plan.now c.requires.proper).one

pub plant-requires : goal.plant-requires
plant-requires c =
    walk_first c.args.plan.now c.in_ok-seating.seating.homes.items c.in_ok-needs.needs.items c.in_ok-base.base.items c.in_ok-standing.standing (task_numbers c.args.order.now) c.requires.limits (c.plans_have_rules.ensures c.args.plan.now c.requires.proper) c.requires.fits
    c.in_ok-standing.ensures.standing (λ g. ap held_size (c.in_ok-standing.ensures.held g)) c.in_ok-standing.ensures.tasks c.in_ok-seating.ensures.seated.homes c.in_ok-needs.ensures.each
    (c.in_ok-base.ensures.items_if_clones_equal (λ y h. h) ∙ ap (λ (n : ℕ). replicate n 0) c.places.ensures.value)

pub returns-clause-tied : goal.returns-clause-tied
returns-clause-tied c =
    opened_by c.args.plan.now (sizes (held_of c.in_ok-standing.standing)) (task_numbers c.args.order.now) _ (c.plans_have_rules.ensures c.args.plan.now c.requires.proper) c.requires.fits (λ g. ap held_size (c.in_ok-standing.ensures.held g)) (record {
      line = ap task_numbers c.in_ok-seating.ensures.line;
      left = c.in_ok-left.ensures.items_if_clones_equal (λ y h. h) ∙ ap (λ (n : ℕ). replicate n true) (ap length c.as_slice-tasks.ensures);
      needs = c.in_ok-needs.ensures.each;
      missing_long = c.in_ok-missing.ensures.long;
      missing = c.in_ok-missing.ensures.each;
      seated = c.in_ok-seating.ensures.seated;
      base = c.in_ok-base.ensures.items_if_clones_equal (λ y h. h) ∙ ap (λ (n : ℕ). replicate n 0) c.places.ensures.value;
      trees_long = c.in_ok-peaks.ensures.long;
      trees = c.in_ok-peaks.ensures.trees;
    })
