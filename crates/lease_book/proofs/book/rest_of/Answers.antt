use Rattle.std.proofs.Common.{◌≤◌, ◌+◌, ◌*◌, length, ap, subst, ℕ}
use Rattle.plan_core.specs.Words.{count_tasks, retries, task_numbers}
use Rattle.lease_book.proofs.BookLemmas.{kept_open}
use Rattle.lease_book.proofs.book.rest_of.Goals as goal

pub returns-clause-kept : goal.returns-clause-kept
returns-clause-kept c =
    let p = c.args.plan.now in
    let n = ap length c.as_slice-tasks.ensures in
    let entries : count_tasks p * (2 * (retries p + 1)) ≤ c.in_ok-history.history.room = subst (λ (k : ℕ). k * (2 * (retries p + 1)) ≤ c.in_ok-history.history.room) n (rw c.retries.ensures at c.in_ok-history.ensures.room) in
    let sizes = rw (c.retries.ensures, c.all_made.ensures.value) at c.in_ok-history.ensures.sizes_room in
    kept_open p (task_numbers c.args.order.now) c.in_ok-history.history c.in_ok-state.state (c.storage_laws.ensures p c.requires.proper) c.requires.limits c.requires.retries c.requires.order c.in_ok-history.ensures.events entries sizes c.in_ok-state.ensures.state c.in_ok-state.ensures.room c.in_ok-state.ensures.peaks
