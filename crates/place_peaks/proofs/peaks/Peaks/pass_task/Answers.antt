use Rattle.std.proofs.Common.{◌<◌, ◌+◌, ◌∙◌, length, sym, subst, arith, ℕ, List}
use Rattle.place_peaks.proofs.Offered.{count_tasks_in}
use Rattle.plan_core.specs.Words.{task_numbers}
use Rattle.storage_simulation.specs.code.Standings.{held_of}
use Rattle.storage_simulation.specs.Standings.{sizes}
use Rattle.place_peaks.specs.Renewing.{IsLevel}
use Rattle.place_peaks.proofs.RenewingLemmas.{level_added, level_passed, level_short, there_same, walk_need}
use Rattle.place_peaks.proofs.peaks.Peaks.pass_task.Goals as goal

pub returns-then-not-is_there-clause-next : goal.returns-then-not-is_there-clause-next
returns-then-not-is_there-clause-next c =
    let count = count_tasks_in c.args.tasks.now in
    let below : c.args.k < length (task_numbers c.args.tasks.now) = omega (arith, count, c.requires.within) in
    level_passed c.args.plan.now (sizes (held_of c.args.standing.now)) (task_numbers c.args.tasks.now) c.args.at c.args.k c.args.level c.args.levels.now.items c.requires.walk.rules.one below c.requires.place
    (sym (there_same c.args.plan.now c.args.self.now.seating.homes.items c.args.self.now.needs.items c.args.self.now.base.items c.args.standing.now (task_numbers c.args.tasks.now) c.args.k c.args.at c.task_at-task.result c.requires.walk below c.task_at-task.ensures) ∙ sym c.is_there.ensures ∙ c.if-not-is_there.true) c.requires.so_far

pub level_after-after-requires-clause-limits : goal.level_after-after-requires-clause-limits
level_after-after-requires-clause-limits c = c.requires.walk.limits

pub level_after-after-requires-clause-goods : goal.level_after-after-requires-clause-goods
level_after-after-requires-clause-goods c = c.requires.walk.rules.keeps

pub level_after-after-requires-clause-standing : goal.level_after-after-requires-clause-standing
level_after-after-requires-clause-standing c = c.requires.walk.standing

pub level_after-after-requires-clause-small : goal.level_after-after-requires-clause-small
level_after-after-requires-clause-small c = c.requires.walk.small

pub level_after-after-requires-clause-follows : goal.level_after-after-requires-clause-follows
level_after-after-requires-clause-follows c = c.requires.walk.follows

pub level_after-after-requires-clause-level : goal.level_after-after-requires-clause-level
level_after-after-requires-clause-level c = c.requires.so_far.level

pub level_after-after-requires-clause-need : goal.level_after-after-requires-clause-need
level_after-after-requires-clause-need c = λ kind.
    let count = count_tasks_in c.args.tasks.now in
    let below : c.args.k < length (task_numbers c.args.tasks.now) = omega (arith, count, c.requires.within) in
    c.need.ensures ∙ walk_need c.args.plan.now c.args.self.now.seating.homes.items c.args.self.now.needs.items c.args.self.now.base.items c.args.standing.now (task_numbers c.args.tasks.now) c.args.k c.args.at c.task_at-task.result c.requires.walk below c.task_at-task.ensures (sym c.is_there.ensures ∙ c.if-not-is_there.false) kind

pub push_reserved-requires : goal.push_reserved-requires
push_reserved-requires c =
    let short = level_short c.args.plan.now (sizes (held_of c.args.standing.now)) (task_numbers c.args.tasks.now) c.args.at c.args.k c.args.level c.args.levels.now.items c.requires.so_far in
    omega (arith, short, c.requires.within, c.requires.room, c.args.levels.now.ok)

pub returns-clause-next : goal.returns-clause-next
returns-clause-next c =
    let count = count_tasks_in c.args.tasks.now in
    let below : c.args.k < length (task_numbers c.args.tasks.now) = omega (arith, count, c.requires.within) in
    subst (λ (xs : List ℕ). IsLevel c.args.plan.now (sizes (held_of c.args.standing.now)) (task_numbers c.args.tasks.now) c.args.at (c.args.k + 1) c.level_after-after.result xs) (sym c.push_reserved.ensures.items)
    (level_added c.args.plan.now (sizes (held_of c.args.standing.now)) (task_numbers c.args.tasks.now) c.args.at c.args.k c.args.level c.level_after-after.result c.args.levels.now.items below
    (sym (there_same c.args.plan.now c.args.self.now.seating.homes.items c.args.self.now.needs.items c.args.self.now.base.items c.args.standing.now (task_numbers c.args.tasks.now) c.args.k c.args.at c.task_at-task.result c.requires.walk below c.task_at-task.ensures) ∙ sym c.is_there.ensures ∙ c.if-not-is_there.false) c.level_after-after.ensures c.requires.so_far)
