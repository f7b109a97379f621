use Rattle.std.proofs.Common.{refl, ◌∙◌, arith}
use Rattle.place_peaks.proofs.Offered.{count_tasks_in}
use Rattle.plan_core.specs.Words.{task_numbers}
use Rattle.storage_simulation.specs.code.Standings.{held_of}
use Rattle.storage_simulation.specs.Standings.{sizes}
use Rattle.place_peaks.proofs.RenewingLemmas.{level_first, level_last}
use Rattle.place_peaks.proofs.peaks.Peaks.find_levels.Goals as goal

pub loop-k-init : goal.loop-k-init
loop-k-init c = record {
  level = level_first c.args.plan.now (sizes (held_of c.args.standing.now)) (task_numbers c.args.tasks.now) c.args.at 0 c.base-level.result c.clear.new.self.items refl c.clear.ensures.items (c.base-level.ensures ∙ c.requires.walk.bases c.args.at c.requires.place);
  room = refl;
}

pub pass_task-level-requires-clause-room : goal.pass_task-level-requires-clause-room
pass_task-level-requires-clause-room c = omega (arith, c.requires.room, c.loop-k.invariant.room, c.clear.ensures.capacity)

pub loop-k-preserved : goal.loop-k-preserved
loop-k-preserved c = record {
  level = c.pass_task-level.ensures.next;
  room = c.pass_task-level.ensures.room ∙ c.loop-k.invariant.room;
}

pub returns-clause-levels : goal.returns-clause-levels
returns-clause-levels c =
    let count = count_tasks_in c.args.tasks.now in
    level_last c.args.plan.now (sizes (held_of c.args.standing.now)) (task_numbers c.args.tasks.now) c.args.at c.loop-k.k c.loop-k.level c.loop-k.levels.items (omega (arith, count)) c.loop-k.invariant.level

pub returns-clause-room : goal.returns-clause-room
returns-clause-room c = c.loop-k.invariant.room ∙ c.clear.ensures.capacity
