use Rattle.std.proofs.Common.{ℕ, List, None, length, get_or, sym, ap, subst, ◌∙◌, arith}
use Rattle.std.proofs.lemmas.List.{length-map}
use Rattle.storage_simulation.specs.Goods.{places}
use Rattle.group_index.specs.Index.{AreAsMany}
use Rattle.place_peaks.specs.Ready.{group_of, groups_of}
use Rattle.place_peaks.proofs.Offered.{at_place, count_tasks_in}
use Rattle.plan_core.specs.Words.{task_numbers}
use Rattle.place_peaks.proofs.RefreshLemmas.{groups_low}
use Rattle.place_peaks.proofs.RenewingLemmas.{seating_long, seating_low, was_grouped}
use Rattle.place_peaks.proofs.ready.Ready.renew.Goals as goal

pub place_all-requires-clause-few : goal.place_all-requires-clause-few
place_all-requires-clause-few c =
    let count = count_tasks_in c.args.seating.now.line.items in
    let long = seating_long c.args.plan.now c.args.seating.now c.requires.seated in
    let most = c.requires.limits.tasks in
    omega (arith, count, long, most)

pub place_all-requires-clause-long : goal.place_all-requires-clause-long
place_all-requires-clause-long c = c.requires.grouped.grouped.positions_long

pub group_all-requires-clause-long : goal.group_all-requires-clause-long
group_all-requires-clause-long c =
    let count = count_tasks_in c.args.seating.now.line.items in
    let long = (was_grouped c.args.plan.now c.args.seating.now c.args.self.now c.requires.seated c.requires.grouped).0 in
    omega (arith, count, long)

pub renew-requires-clause-index : goal.renew-requires-clause-index
renew-requires-clause-index c = c.requires.grouped.grouped.index

pub renew-requires-clause-long : goal.renew-requires-clause-long
renew-requires-clause-long c =
    ap length (c.as_slice.ensures.value ∙ c.group_all.ensures) ∙ length-map (task_numbers c.args.seating.now.line.items) (λ t. group_of (places c.args.plan.now) (get_or c.args.seating.now.homes.items t None))
    ∙ sym (was_grouped c.args.plan.now c.args.seating.now c.args.self.now c.requires.seated c.requires.grouped).1

pub renew-requires-clause-in_groups : goal.renew-requires-clause-in_groups
renew-requires-clause-in_groups c = groups_low c.args.plan.now c.args.seating.now.homes.items (task_numbers c.args.seating.now.line.items) c.as_slice.result.now (length c.args.self.now.index.trees.items) c.requires.seated.in_plan (seating_low c.args.plan.now c.args.seating.now c.requires.one c.requires.seated) (c.as_slice.ensures.value ∙ c.group_all.ensures) c.requires.grouped.grouped.trees_long

pub renew-requires-clause-as_many : goal.renew-requires-clause-as_many
renew-requires-clause-as_many c =
    let was = was_grouped c.args.plan.now c.args.seating.now c.args.self.now c.requires.seated c.requires.grouped in
    subst (λ (gs : List ℕ). AreAsMany (length c.args.self.now.index.trees.items) gs c.args.self.now.index.groups.items) (sym (c.as_slice.ensures.value ∙ c.group_all.ensures))
    (subst (λ (n : ℕ). AreAsMany n (groups_of (places c.args.plan.now) c.args.seating.now.homes.items (task_numbers c.args.seating.now.line.items)) c.args.self.now.index.groups.items) (sym c.requires.grouped.grouped.trees_long) was.2)

pub returns : goal.returns
returns c =
    let count = count_tasks_in c.args.seating.now.line.items in
    record {
      index = c.renew.ensures.index;
      few = let long = seating_long c.args.plan.now c.args.seating.now c.requires.seated in let most = c.requires.limits.tasks in omega (arith, long, most);
      trees_long = c.renew.ensures.long ∙ c.requires.grouped.grouped.trees_long;
      groups_long = ap length c.group_all.ensures ∙ length-map (task_numbers c.args.seating.now.line.items) (λ t. group_of (places c.args.plan.now) (get_or c.args.seating.now.homes.items t None));
      positions_long = c.place_all.ensures.long;
      placed = λ k l. c.place_all.ensures.placed k (omega (arith, l, count));
      in_plan = λ k l. c.requires.seated.in_plan (get_or (task_numbers c.args.seating.now.line.items) k 0) (at_place (task_numbers c.args.seating.now.line.items) k l);
      low = seating_low c.args.plan.now c.args.seating.now c.requires.one c.requires.seated;
      groups = c.renew.ensures.groups ∙ c.as_slice.ensures.value ∙ c.group_all.ensures;
    }
