use Rattle.std.proofs.Common.{◌≡◌, ℕ, ◌<◌, true, List, length, get_or, sym, ap, ◌∙◌, arith}
use Rattle.values.specs.declared.numbers.TaskId.{TaskId}
use Rattle.plan_core.specs.Numbers.{has}
use Rattle.plan_core.specs.Words.{parents, task_numbers}
use Rattle.storage_simulation.specs.code.Front.{front_of}
use Rattle.storage_simulation.specs.Ordering.{is_done}
use Rattle.storage_simulation.specs.code.Ordering.{progress}
use Rattle.storage_simulation.proofs.FollowingLemmas.{at_place}
use Rattle.storage_simulation.proofs.NumbersLemmas.{count_tasks_in, task_at}
use Rattle.storage_simulation.proofs.UpkeepLemmas.{done_one, last_is}
use Rattle.storage_simulation.proofs.upkeep.last_parent.Goals as goal

none : TaskId
none = record { 0 = 0 }

pub returns-then-not-is_done : goal.returns-then-not-is_done
unfolding none
returns-then-not-is_done c =
    let ts = c.parents-parents.result.now in
    let long = count_tasks_in ts in
    let low : c.loop-parent.parent-index < length (task_numbers ts) = omega (arith, long, c.loop-parent-test.true) in
    let u : ℕ = (get_or ts c.loop-parent.parent-index none).0 in
    let parent : has (parents c.args.plan.now c.args.task) u ≡ true = ap (λ (xs : List ℕ). has xs u) (sym c.parents-parents.ensures) ∙ ap (has (task_numbers ts)) (sym (task_at ts c.loop-parent.parent-index none c.loop-parent-test.true)) ∙ at_place (task_numbers ts) c.loop-parent.parent-index low in
    last_is c.args.plan.now (progress c.args.standing.now) (front_of c.args.front.now) c.args.task u c.requires.set.orderable c.requires.one parent
    (sym (c.requires.set.front.done_is u (c.requires.set.orderable.parents_below c.args.task u parent)) ∙ sym c.is_done.ensures ∙ c.if-not-is_done.true)

pub loop-parent-preserved : goal.loop-parent-preserved
unfolding none
loop-parent-preserved c =
    let ts = c.parents-parents.result.now in
    let long = count_tasks_in ts in
    let low : c.loop-parent.parent-index < length (task_numbers ts) = omega (arith, long, c.loop-parent-test.true) in
    let u : ℕ = (get_or ts c.loop-parent.parent-index none).0 in
    let at = task_at ts c.loop-parent.parent-index none c.loop-parent-test.true in
    let parent : has (parents c.args.plan.now c.args.task) u ≡ true = ap (λ (xs : List ℕ). has xs u) (sym c.parents-parents.ensures) ∙ ap (has (task_numbers ts)) (sym at) ∙ at_place (task_numbers ts) c.loop-parent.parent-index low in
    done_one (is_done (progress c.args.standing.now) (front_of c.args.front.now)) (task_numbers ts) c.loop-parent.parent-index low
    (ap (is_done (progress c.args.standing.now) (front_of c.args.front.now)) at ∙ sym (c.requires.set.front.done_is u (c.requires.set.orderable.parents_below c.args.task u parent)) ∙ sym c.is_done.ensures ∙ c.if-not-is_done.false) c.loop-parent.invariant
