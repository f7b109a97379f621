use Rattle.std.proofs.Common.{◌<◌, ℕ, ◌+◌, arith, cond, get_or, refl, sym, ap, subst, ◌∙◌}
use Rattle.plan_core.specs.Words.{task_numbers}
use Rattle.storage_simulation.specs.code.Front.{front_of}
use Rattle.storage_simulation.specs.code.Ordering.{progress}
use Rattle.storage_simulation.proofs.CountingLemmas.{room_at}
use Rattle.storage_simulation.proofs.DeterminedLemmas.{step_opens}
use Rattle.storage_simulation.proofs.NumbersLemmas.{count_tasks_in}
use Rattle.storage_simulation.proofs.PlacingLemmas.{bench_more, enough_at, front_next}
use Rattle.storage_simulation.proofs.placing.place.Goals as goal

pub push_reserved-requires : goal.push_reserved-requires
push_reserved-requires c =
    let opens = step_opens c.args.plan.now (progress c.args.standing.now) (front_of c.args.front.now) c.args.task.0 c.requires.step in
    let room = room_at c.args.plan.now (progress c.args.standing.now) (front_of c.args.front.now) c.args.task.0 c.requires.set.front.steps opens in
    let long = count_tasks_in c.args.front.now.placed.items in
    omega (arith, room, long, c.requires.set.made_for.room, c.args.front.now.placed.ok)

pub count_down-requires-clause-enough : goal.count_down-requires-clause-enough
count_down-requires-clause-enough c =
    let opens = step_opens c.args.plan.now (progress c.args.standing.now) (front_of c.args.front.now) c.args.task.0 c.requires.step in
    λ n h. enough_at c.args.plan.now c.args.standing.now c.args.front.now c.args.task.0 n c.requires.set opens
    (subst (λ (m : ℕ). n < m) c.requires.set.made_for.nodes (c.children_of.ensures.in_range n h))
    (sym (c.requires.set.made_for.edges c.args.task.0 n) ∙ sym (c.children_of.ensures.same n) ∙ h)

pub returns-clause-set : goal.returns-clause-set
returns-clause-set c = bench_more c.args.plan.now c.args.standing.now c.args.front.now _ c.args.task c.change_of-change.result c.requires.set c.requires.step (record {
  placed = c.push_reserved.ensures.items;
  room = c.push_reserved.ensures.capacity;
  graph = refl;
  done = refl;
  missing_long = c.count_down.ensures.long;
  missing_is = λ n. ap (λ b. get_or c.count_down.new.counts.items n 0 + cond b 1 0) (sym (c.children_of.ensures.same n ∙ c.requires.set.made_for.edges c.args.task.0 n)) ∙ c.count_down.ensures.each n;
  change_is = c.change_of-change.ensures;
  used_long = c.settle.ensures.long;
  used_is = c.settle.ensures.each;
  peaks_long = c.raise.ensures.long;
  peaks_are = c.raise.ensures.each;
})

pub returns-clause-placed : goal.returns-clause-placed
returns-clause-placed c = ap task_numbers c.push_reserved.ensures.items ∙ front_next c.args.front.now.placed.items c.args.task
