use Rattle.std.proofs.Common.{◌≡◌, length}
use Rattle.storage_simulation.specs.Goods.{makes}
use Rattle.values.specs.Numbers.{total}
use Rattle.lease_book.proofs.goods.all_made.Given as goal

abbrev pub invariant-loop-task : goal.invariant-loop-task
invariant-loop-task l = l.sum ≡ total l.task (λ t. length (makes l.plan t))
