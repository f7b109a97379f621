use Rattle.std.proofs.Common.{◌≡◌, ℕ, ◌+◌, ◌≤◌, ◌*◌, ◌^◌, length, get_or, sym, ap, ◌∙◌, arith}
use Rattle.plan_core.specs.Words.{count_tasks}
use Rattle.storage_simulation.specs.code.Front.{front_of}
use Rattle.storage_simulation.specs.code.Index.{last_of}
use Rattle.storage_simulation.specs.code.Ordering.{progress}
use Rattle.values.specs.Numbers.{total}
use Rattle.storage_simulation.proofs.UpkeepLemmas.{goes_done, goes_start, total_none}
use Rattle.storage_simulation.proofs.UsageLemmas.{total_more}
use Rattle.storage_simulation.proofs.upkeep.reset_goes.Goals as goal

pub loop-task-init : goal.loop-task-init
loop-task-init c = (
  c.zero_out.ensures.long ∙ c.requires.long,
  λ v w. goes_start c.zero_out.new.numbers.items (last_of c.args.plan.now (progress c.args.standing.now) (front_of c.args.front.now) v) v (λ k l. c.zero_out.ensures.each k (omega (arith, l, c.zero_out.ensures.long))),
  λ v. let none = goes_start c.zero_out.new.numbers.items (λ n. 0) v (λ k l. c.zero_out.ensures.each k (omega (arith, l, c.zero_out.ensures.long))) in let z = total_zero in omega (arith, none, z),
)
  where
    total_zero : total 0 (λ n. 0) ≡ 0
    total_zero = total_none (λ n. 0)

pub loop-task-preserved : goal.loop-task-preserved
loop-task-preserved c = (
  c.raise_one.ensures.long,
  λ v w. c.raise_one.ensures.each v w ∙ ap (λ (n : ℕ). n + last_of c.args.plan.now (progress c.args.standing.now) (front_of c.args.front.now) v c.loop-task.task) (c.loop-task.invariant.1 v w)
      ∙ sym (total_more (last_of c.args.plan.now (progress c.args.standing.now) (front_of c.args.front.now) v) c.loop-task.task),
  λ v. let now = c.raise_one.ensures.small v in let was = c.loop-task.invariant.2 v in product c.loop-task.task (get_or c.raise_one.new.table.items v 0) (get_or c.loop-task.table.items v 0) now was,
)
  where
    product : (i n m : ℕ) → n ≤ m + 2 ^ 40 → m ≤ i * 2 ^ 40 → n ≤ (i + 1) * 2 ^ 40
    product i n m h k = omega (arith, h, k)

pub returns-clause-goes : goal.returns-clause-goes
returns-clause-goes c =
    let n = ap length c.as_slice-task-end.ensures in
    let all : c.loop-task.task ≡ count_tasks c.args.plan.now = omega (arith, n, c.loop-task-test.false, c.loop-task.auto.task-end) in
    let few = c.requires.set.limits.tasks in
    goes_done c.args.plan.now (progress c.args.standing.now) (front_of c.args.front.now) c.loop-task.table.items c.loop-task.task c.requires.set.orderable all (omega (arith, all, few)) c.loop-task.invariant.1 c.loop-task.invariant.2
