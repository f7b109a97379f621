use Rattle.std.proofs.Common.{◌≡◌, ◌≤◌, ℕ, take, true}
use Rattle.plan_core.specs.Numbers.{has}
use Rattle.storage_simulation.specs.Goods.{good_size, makes}
use Rattle.lease_book.proofs.sizes.is_declared.Given as goal

abbrev pub invariant-loop-k : goal.invariant-loop-k
invariant-loop-k l = (g : ℕ) → has (take l.k (makes l.plan l.task.0)) g ≡ true → l.size ≤ good_size l.plan g
