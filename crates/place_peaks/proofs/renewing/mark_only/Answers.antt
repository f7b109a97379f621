use Rattle.std.proofs.Common.{◌≡◌, ◌<◌, ◌∙◌, true, false, length, refl, ap, arith}
use Rattle.std.specs.Prelude.{replicate, vec_len}
use Rattle.std.proofs.lemmas.List.{length-set}
use Rattle.place_peaks.proofs.Offered.{at_place, count_tasks_in}
use Rattle.plan_core.specs.Numbers.{has}
use Rattle.plan_core.specs.Words.{task_numbers}
use Rattle.place_peaks.proofs.RenewingLemmas.{marked_first, marked_last, marked_more}
use Rattle.place_peaks.proofs.renewing.mark_only.Goals as goal

pub loop-k-init : goal.loop-k-init
loop-k-init c =
    let none : c.fill.new.self.items ≡ replicate (vec_len c.args.left.now) false = c.fill.ensures.items (λ y h. h) in
    (refl, marked_first (vec_len c.args.left.now) c.fill.new.self.items (task_numbers c.args.tasks.now) 0 refl none)

pub index_mut-requires : goal.index_mut-requires
index_mut-requires c =
    let count = count_tasks_in c.args.tasks.now in
    let below : c.loop-k.k < length (task_numbers c.args.tasks.now) = (let test = c.loop-k-test.true in omega (arith, count, test)) in
    let low = c.requires c.task_at-task.result (ap (has (task_numbers c.args.tasks.now)) c.task_at-task.ensures ∙ at_place (task_numbers c.args.tasks.now) c.loop-k.k below) in
    omega (arith, low, c.loop-k.invariant.0, c.fill.ensures.len, c.fill.new.self.ok, c.args.left.now.ok, c.loop-k.left.ok)

pub loop-k-preserved : goal.loop-k-preserved
loop-k-preserved c =
    let count = count_tasks_in c.args.tasks.now in
    let below : c.loop-k.k < length (task_numbers c.args.tasks.now) = (let test = c.loop-k-test.true in omega (arith, count, test)) in
    let low = c.requires c.task_at-task.result (ap (has (task_numbers c.args.tasks.now)) c.task_at-task.ensures ∙ at_place (task_numbers c.args.tasks.now) c.loop-k.k below) in (
      length-set c.loop-k.left.items c.task_at-task.result true ∙ c.loop-k.invariant.0,
      marked_more c.loop-k.left.items (task_numbers c.args.tasks.now) c.loop-k.k c.task_at-task.result below c.task_at-task.ensures (omega (arith, low, c.loop-k.invariant.0, c.fill.ensures.len, c.fill.new.self.ok, c.args.left.now.ok)) c.loop-k.invariant.1,
    )

pub returns-clause-long : goal.returns-clause-long
returns-clause-long c = omega (arith, c.loop-k.invariant.0, c.fill.ensures.len, c.fill.new.self.ok, c.args.left.now.ok)

pub returns-clause-each : goal.returns-clause-each
returns-clause-each c = marked_last c.loop-k.left.items (task_numbers c.args.tasks.now) c.loop-k.k (let count = count_tasks_in c.args.tasks.now in omega (arith, count)) c.loop-k.invariant.1
