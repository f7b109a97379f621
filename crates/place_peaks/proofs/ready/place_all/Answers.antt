use Rattle.std.proofs.Common.{◌<◌, length, ap, ◌∙◌, arith}
use Rattle.std.proofs.lemmas.List.{length-set}
use Rattle.place_peaks.proofs.Offered.{at_place, count_tasks_in}
use Rattle.plan_core.specs.Numbers.{has}
use Rattle.plan_core.specs.Words.{task_numbers}
use Rattle.place_peaks.proofs.RefreshLemmas.{placed_next}
use Rattle.place_peaks.proofs.ready.place_all.Goals as goal

pub index_mut-requires : goal.index_mut-requires
index_mut-requires c =
    let count = count_tasks_in c.args.seating.now.line.items in
    let below : c.loop-k.k < length (task_numbers c.args.seating.now.line.items) = (let test = c.loop-k-test.true in omega (arith, count, test)) in
    let low = c.requires.seated.in_plan c.task-task.result (ap (has (task_numbers c.args.seating.now.line.items)) c.task-task.ensures ∙ at_place (task_numbers c.args.seating.now.line.items) c.loop-k.k below) in
    omega (arith, low, c.loop-k.invariant.long, c.requires.long, c.loop-k.positions.ok)

pub loop-k-preserved : goal.loop-k-preserved
loop-k-preserved c =
    let count = count_tasks_in c.args.seating.now.line.items in
    let below : c.loop-k.k < length (task_numbers c.args.seating.now.line.items) = (let test = c.loop-k-test.true in omega (arith, count, test)) in
    let low = c.requires.seated.in_plan c.task-task.result (ap (has (task_numbers c.args.seating.now.line.items)) c.task-task.ensures ∙ at_place (task_numbers c.args.seating.now.line.items) c.loop-k.k below) in
    record {
      long = length-set c.loop-k.positions.items c.task-task.result c.loop-k.k ∙ c.loop-k.invariant.long;
      placed = placed_next c.loop-k.positions.items (task_numbers c.args.seating.now.line.items) c.loop-k.k c.task-task.result c.requires.seated.once below c.task-task.ensures (omega (arith, low, c.loop-k.invariant.long, c.requires.long)) c.loop-k.invariant.placed;
    }
