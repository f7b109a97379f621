use Rattle.std.proofs.Common.{◌∙◌, ℕ, List, length, sym, ap, subst, arith}
use Rattle.place_peaks.proofs.Offered.{count_tasks_in, few_once}
use Rattle.plan_core.specs.Numbers.{has}
use Rattle.plan_core.specs.Words.{count_tasks, task_numbers}
use Rattle.storage_simulation.specs.Following.{AreOnce}
use Rattle.place_peaks.specs.declared.seating.Seating.{Seating}
use Rattle.place_peaks.specs.Places.{AreSeats}
use Rattle.place_peaks.proofs.RenewingLemmas.{laid_of, line_low, line_once, new_line, new_room, seating_long}
use Rattle.place_peaks.proofs.peaks.Peaks.lay.Goals as goal

pub mark_only-requires : goal.mark_only-requires
mark_only-requires c = λ u m. let low = c.requires.low u m in let long = c.requires.marks in omega (arith, low, long)

pub overwrite-requires : goal.overwrite-requires
overwrite-requires c =
    let few = few_once (count_tasks c.args.plan.now) (task_numbers c.args.tasks.now) c.requires.once c.requires.low in
    let count = count_tasks_in c.args.tasks.now in
    let long = seating_long c.args.plan.now c.args.self.now.seating c.requires.seated in
    let line = count_tasks_in c.args.self.now.seating.line.items in
    omega (arith, few, count, long, line, c.args.self.now.seating.line.ok)

pub add_others-requires-clause-few : goal.add_others-requires-clause-few
add_others-requires-clause-few c =
    let same = ap length c.as_slice.ensures.value in
    omega (arith, same, c.mark_only.ensures.long, c.requires.marks, c.requires.limits.tasks)

pub add_others-requires-clause-room : goal.add_others-requires-clause-room
add_others-requires-clause-room c =
    let room = new_room (count_tasks c.args.plan.now) c.mark_only.new.left.items c.as_slice.result.now c.args.tasks.now c.overwrite.new.line.items (c.mark_only.ensures.long ∙ c.requires.marks) c.mark_only.ensures.each c.as_slice.ensures.value c.overwrite.ensures.items c.requires.once c.requires.low in
    let long = seating_long c.args.plan.now c.args.self.now.seating c.requires.seated in
    let line = count_tasks_in c.args.self.now.seating.line.items in
    omega (arith, room, long, line, c.args.self.now.seating.line.ok, c.overwrite.ensures.room)

pub seat_all-requires-clause-once : goal.seat_all-requires-clause-once
seat_all-requires-clause-once c =
    let is = new_line (count_tasks c.args.plan.now) c.mark_only.new.left.items c.as_slice.result.now c.args.tasks.now c.overwrite.new.line.items c.add_others.new.line.items (c.mark_only.ensures.long ∙ c.requires.marks) c.mark_only.ensures.each c.as_slice.ensures.value c.overwrite.ensures.items c.add_others.ensures in
    subst AreOnce (sym is) (line_once (count_tasks c.args.plan.now) (task_numbers c.args.tasks.now) c.requires.once)

pub seat_all-requires-clause-tasks : goal.seat_all-requires-clause-tasks
seat_all-requires-clause-tasks c =
    let is = new_line (count_tasks c.args.plan.now) c.mark_only.new.left.items c.as_slice.result.now c.args.tasks.now c.overwrite.new.line.items c.add_others.new.line.items (c.mark_only.ensures.long ∙ c.requires.marks) c.mark_only.ensures.each c.as_slice.ensures.value c.overwrite.ensures.items c.add_others.ensures in
    λ u m. line_low (count_tasks c.args.plan.now) (task_numbers c.args.tasks.now) c.requires.low u (ap (λ (xs : List ℕ). has xs u) (sym is) ∙ m)

pub seat_all-requires-clause-seats : goal.seat_all-requires-clause-seats
seat_all-requires-clause-seats c = c.requires.seated.counted.seats_long

pub seat_all-requires-clause-widths : goal.seat_all-requires-clause-widths
seat_all-requires-clause-widths c = c.requires.seated.counted.widths_long

pub returns-clause-laid : goal.returns-clause-laid
returns-clause-laid c =
    let is = new_line (count_tasks c.args.plan.now) c.mark_only.new.left.items c.as_slice.result.now c.args.tasks.now c.overwrite.new.line.items c.add_others.new.line.items (c.mark_only.ensures.long ∙ c.requires.marks) c.mark_only.ensures.each c.as_slice.ensures.value c.overwrite.ensures.items c.add_others.ensures in
    let line = ap (λ (x : Seating). task_numbers x.line.items) c.seat_all.ensures.same in
    laid_of c.args.plan.now c.args.self.now.seating c.seat_all.new.self (task_numbers c.args.tasks.now) c.requires.seated c.requires.once c.requires.low (ap (λ (x : Seating). x.homes.items) c.seat_all.ensures.same) (line ∙ is)
    (subst (λ (xs : List ℕ). AreSeats c.args.plan.now xs c.seat_all.new.self.seats.items c.seat_all.new.self.widths.items (length xs)) (sym line) c.seat_all.ensures.seated)
