use Rattle.std.proofs.Common.{◌≡◌, false, ◌+◌, ◌<◌, ℕ, length, get_or, take, sym, ap, ◌∙◌, arith}
use Rattle.place_peaks.proofs.Offered.{count_tasks_in}
use Rattle.plan_core.specs.Words.{cleans, task_numbers}
use Rattle.storage_simulation.specs.code.Change.{cleaned_part}
use Rattle.storage_simulation.specs.code.Standings.{held_of, phase_of}
use Rattle.storage_simulation.specs.Standings.{sizes}
use Rattle.place_peaks.proofs.RenewingLemmas.{level_cleaned, level_made, no_clean}
use Rattle.place_peaks.proofs.renewing.level_after.Goals as goal

pub overflow_add-result : goal.overflow_add-result
overflow_add-result c =
    let p = c.args.plan.now in
    let ts = task_numbers c.args.tasks.now in
    let size = sizes (held_of c.args.standing.now) in
    let count = count_tasks_in c.args.tasks.now in
    let below : c.args.k < length ts = omega (arith, count, c.requires.within) in
    let off : (g : ℕ) → cleans p (get_or ts c.args.k 0) g ≡ false = λ g. ap (λ (t : ℕ). cleans p t g) (sym c.task_at-task.ensures) ∙ c.in-None.ensures g in
    let made = level_made p (phase_of c.args.standing.now) size ts c.args.k c.args.at c.args.before c.args.need c.requires.goods c.requires.follows below c.requires.place off c.requires.small (c.requires.need (no_clean p (get_or ts c.args.k 0) off)) c.requires.level in
    let few = c.sums_are_small.ensures p size (take (c.args.k + 1) ts) c.args.at c.requires.limits c.requires.standing.small in
    omega (arith, made, few)

pub overflow_sub-result : goal.overflow_sub-result
overflow_sub-result c =
    let p = c.args.plan.now in
    let ts = task_numbers c.args.tasks.now in
    let size = sizes (held_of c.args.standing.now) in
    let count = count_tasks_in c.args.tasks.now in
    let below : c.args.k < length ts = omega (arith, count, c.requires.within) in
    let cleaned = level_cleaned p (phase_of c.args.standing.now) size ts c.args.k c.args.at c.in-Some.good c.args.before c.requires.goods c.requires.follows below c.requires.place (λ x. ap (λ (t : ℕ). cleans p t x) (sym c.task_at-task.ensures) ∙ c.in-Some.ensures x) c.requires.level in
    let one = c.cleaned_now.ensures ∙ ap (λ (t : ℕ). cleaned_part p (phase_of c.args.standing.now) size t c.args.at c.in-Some.good) c.task_at-task.ensures in
    omega (arith, cleaned, one)

pub returns-in-None : goal.returns-in-None
returns-in-None c =
    let p = c.args.plan.now in
    let ts = task_numbers c.args.tasks.now in
    let count = count_tasks_in c.args.tasks.now in
    let below : c.args.k < length ts = omega (arith, count, c.requires.within) in
    let off : (g : ℕ) → cleans p (get_or ts c.args.k 0) g ≡ false = λ g. ap (λ (t : ℕ). cleans p t g) (sym c.task_at-task.ensures) ∙ c.in-None.ensures g in
    level_made p (phase_of c.args.standing.now) (sizes (held_of c.args.standing.now)) ts c.args.k c.args.at c.args.before c.args.need c.requires.goods c.requires.follows below c.requires.place off c.requires.small (c.requires.need (no_clean p (get_or ts c.args.k 0) off)) c.requires.level

pub returns-in-Some : goal.returns-in-Some
returns-in-Some c =
    let p = c.args.plan.now in
    let ts = task_numbers c.args.tasks.now in
    let size = sizes (held_of c.args.standing.now) in
    let count = count_tasks_in c.args.tasks.now in
    let below : c.args.k < length ts = omega (arith, count, c.requires.within) in
    let cleaned = level_cleaned p (phase_of c.args.standing.now) size ts c.args.k c.args.at c.in-Some.good c.args.before c.requires.goods c.requires.follows below c.requires.place (λ x. ap (λ (t : ℕ). cleans p t x) (sym c.task_at-task.ensures) ∙ c.in-Some.ensures x) c.requires.level in
    let one = c.cleaned_now.ensures ∙ ap (λ (t : ℕ). cleaned_part p (phase_of c.args.standing.now) size t c.args.at c.in-Some.good) c.task_at-task.ensures in
    omega (arith, cleaned, one)
