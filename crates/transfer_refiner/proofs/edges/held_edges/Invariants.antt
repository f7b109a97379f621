use Rattle.std.proofs.Common.{◌≡◌}
use Rattle.transfer_refiner.specs.code.Edges.{held_edges}
use Rattle.transfer_refiner.specs.code.View.{draft_of}
use Rattle.transfer_refiner.proofs.edges.held_edges.Given as goal

abbrev pub invariant-loop-number : goal.invariant-loop-number
invariant-loop-number l = l.edges.items ≡ held_edges (draft_of l.view) l.number
