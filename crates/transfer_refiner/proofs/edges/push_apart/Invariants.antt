use Rattle.std.proofs.Common.{◌≡◌, ◌++◌, drop}
use Rattle.transfer_refiner.specs.code.Edges.{fan_apart}
use Rattle.transfer_refiner.proofs.edges.push_apart.Given as goal

abbrev pub invariant-loop-number : goal.invariant-loop-number
invariant-loop-number l = l.edges.items ++ fan_apart (drop l.number-index l.to) l.from ≡ l.fn.edges.items ++ fan_apart l.to l.from
