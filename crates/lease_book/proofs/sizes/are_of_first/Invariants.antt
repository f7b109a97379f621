use Rattle.storage_simulation.specs.Goods.{makes}
use Rattle.lease_book.proofs.SizeLemmas.{FirstLeft}
use Rattle.lease_book.proofs.sizes.are_of_first.Given as goal

abbrev pub invariant-loop-k : goal.invariant-loop-k
invariant-loop-k l = FirstLeft l.plan (makes l.plan l.task.0) l.sizes l.k
