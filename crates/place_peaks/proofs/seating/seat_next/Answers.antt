use Rattle.std.proofs.Common.{◌<◌, length, sym, ap, ◌∙◌, arith}
use Rattle.std.proofs.lemmas.List.{get_or_default}
use Rattle.place_peaks.proofs.Offered.{at_place, count_tasks_in}
use Rattle.plan_core.specs.Numbers.{has}
use Rattle.plan_core.specs.Words.{task_numbers}
use Rattle.place_peaks.proofs.OpeningLemmas.{seats_some, width_few}
use Rattle.place_peaks.proofs.seating.seat_next.Goals as goal

pub index_mut-requires : goal.index_mut-requires
index_mut-requires c =
    let count = count_tasks_in c.args.line.now in
    let below : c.args.k < length (task_numbers c.args.line.now) = omega (arith, count, c.requires.within) in
    let low = c.requires.tasks c.task_at-task.result (ap (has (task_numbers c.args.line.now)) c.task_at-task.ensures ∙ at_place (task_numbers c.args.line.now) c.args.k below) in
    omega (arith, low, c.requires.so_far.seats_long, c.args.seats.now.ok)

pub overflow_add-seat : goal.overflow_add-seat
overflow_add-seat c =
    let count = count_tasks_in c.args.line.now in
    let low = c.requires.one.place_below c.task_at-task.result c.in-Some.at (sym c.in-Some.ensures) in
    let within : c.in-Some.at < length c.args.widths.now.items = omega (arith, low, c.requires.so_far.widths_long) in
    let same = c.index-seat.ensures ∙ get_or_default c.args.widths.now.items c.in-Some.at c.index-seat.result.now 0 within in
    let few = width_few c.args.plan.now (task_numbers c.args.line.now) c.args.seats.now.items c.args.widths.now.items c.args.k c.in-Some.at c.requires.so_far low in
    omega (arith, same, few, c.ranges.k.fits)

pub returns-in-Some : goal.returns-in-Some
returns-in-Some c =
    let count = count_tasks_in c.args.line.now in
    let below : c.args.k < length (task_numbers c.args.line.now) = omega (arith, count, c.requires.within) in
    let low_task = c.requires.tasks c.task_at-task.result (ap (has (task_numbers c.args.line.now)) c.task_at-task.ensures ∙ at_place (task_numbers c.args.line.now) c.args.k below) in
    let low = c.requires.one.place_below c.task_at-task.result c.in-Some.at (sym c.in-Some.ensures) in
    let within : c.in-Some.at < length c.args.widths.now.items = omega (arith, low, c.requires.so_far.widths_long) in
    let same = c.index-seat.ensures ∙ get_or_default c.args.widths.now.items c.in-Some.at c.index-seat.result.now 0 within in
    seats_some c.args.plan.now (task_numbers c.args.line.now) c.args.seats.now.items c.args.widths.now.items c.args.k c.task_at-task.result c.in-Some.at c.index-seat.result.now c.requires.so_far c.requires.once below c.task_at-task.ensures (sym c.in-Some.ensures) low_task low same
