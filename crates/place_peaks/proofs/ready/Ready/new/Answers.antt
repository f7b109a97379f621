use Rattle.std.proofs.Common.{◌+◌, None, length, get_or, ap, ◌∙◌, arith}
use Rattle.std.proofs.lemmas.List.{length-map, length-replicate}
use Rattle.storage_simulation.specs.Goods.{places}
use Rattle.place_peaks.specs.Ready.{group_of}
use Rattle.place_peaks.proofs.Offered.{at_place, count_tasks_in}
use Rattle.plan_core.specs.Words.{task_numbers}
use Rattle.place_peaks.proofs.RefreshLemmas.{groups_low}
use Rattle.place_peaks.proofs.RenewingLemmas.{seating_long, seating_low}
use Rattle.place_peaks.proofs.ready.Ready.new.Goals as goal

pub place_all-requires-clause-few : goal.place_all-requires-clause-few
place_all-requires-clause-few c =
    let count = count_tasks_in c.args.seating.now.line.items in
    let long = seating_long c.args.plan.now c.args.seating.now c.requires.seated in
    let most = c.requires.limits.tasks in
    omega (arith, count, long, most)

pub place_all-requires-clause-long : goal.place_all-requires-clause-long
place_all-requires-clause-long c = ap length (c.in_ok-positions.ensures.items_if_clones_equal (λ y h. h)) ∙ length-replicate _ 0 ∙ ap length c.as_slice.ensures

pub new-requires-clause-few : goal.new-requires-clause-few
new-requires-clause-few c =
    let same = ap length (c.as_slice-2.ensures.value ∙ c.group_all.ensures) in
    let groups = length-map (task_numbers c.args.seating.now.line.items) (λ t. group_of (places c.args.plan.now) (get_or c.args.seating.now.homes.items t None)) in
    let long = seating_long c.args.plan.now c.args.seating.now c.requires.seated in
    omega (arith, same, groups, long, c.requires.limits.tasks)

pub new-requires-clause-in_groups : goal.new-requires-clause-in_groups
new-requires-clause-in_groups c = groups_low c.args.plan.now c.args.seating.now.homes.items (task_numbers c.args.seating.now.line.items) c.as_slice-2.result.now (c.places.result + 1) c.requires.seated.in_plan (seating_low c.args.plan.now c.args.seating.now c.requires.one c.requires.seated) (c.as_slice-2.ensures.value ∙ c.group_all.ensures) (let e = c.places.ensures.value in omega (arith, e))

pub returns : goal.returns
returns c =
    let count = count_tasks_in c.args.seating.now.line.items in
    record {
      index = c.in_ok-index.ensures.index;
      few = let long = seating_long c.args.plan.now c.args.seating.now c.requires.seated in let most = c.requires.limits.tasks in omega (arith, long, most);
      trees_long = let e = c.places.ensures.value in let long = c.in_ok-index.ensures.long in omega (arith, e, long);
      groups_long = ap length c.group_all.ensures ∙ length-map (task_numbers c.args.seating.now.line.items) (λ t. group_of (places c.args.plan.now) (get_or c.args.seating.now.homes.items t None));
      positions_long = c.place_all.ensures.long;
      placed = λ k l. c.place_all.ensures.placed k (omega (arith, l, count));
      in_plan = λ k l. c.requires.seated.in_plan (get_or (task_numbers c.args.seating.now.line.items) k 0) (at_place (task_numbers c.args.seating.now.line.items) k l);
      low = seating_low c.args.plan.now c.args.seating.now c.requires.one c.requires.seated;
      groups = c.in_ok-index.ensures.groups ∙ c.as_slice-2.ensures.value ∙ c.group_all.ensures;
    }
