use Rattle.std.proofs.Common.{◌<◌, ◌||◌, ℕ, ap, sym, ◌∙◌, length, nat_eq, arith}
use Rattle.plan_core.specs.Words.{task_numbers}
use Rattle.storage_simulation.specs.code.Following.{is_marked}
use Rattle.storage_simulation.proofs.MarksLemmas.{marked_more}
use Rattle.storage_simulation.proofs.NumbersLemmas.{count_tasks_in, task_at}
use Rattle.storage_simulation.proofs.following.comes_next.Goals as goal

pub returns-clause-marked : goal.returns-clause-marked
returns-clause-marked c =
    let count = count_tasks_in c.args.order.now in
    let below : c.args.k < length (task_numbers c.args.order.now) = omega (arith, count, c.requires.within) in
    λ h. marked_more c.args.marks.now.items c.mark.new.marks.items (task_numbers c.args.order.now) c.args.k below c.requires.marked
    (λ t. c.mark.ensures.each t ∙ ap (λ (n : ℕ). nat_eq n t || is_marked c.args.marks.now.items t) (sym (task_at c.args.order.now c.args.k (record { 0 = 0 }) c.requires.within)))
