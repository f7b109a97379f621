use Rattle.std.proofs.Common.{◌≡◌, ◌++◌, drop}
use Rattle.transfer_refiner.specs.code.Edges.{all_apart}
use Rattle.transfer_refiner.proofs.edges.push_all_apart.Given as goal

abbrev pub invariant-loop-number : goal.invariant-loop-number
invariant-loop-number l = l.edges.items ++ all_apart (drop l.number-index l.from) l.to ≡ l.fn.edges.items ++ all_apart l.from l.to
