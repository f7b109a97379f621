use Rattle.std.proofs.Common.{◌≡◌, ◌++◌, drop}
use Rattle.std.specs.List.{flat_map}
use Rattle.transfer_refiner.specs.code.Edges.{part_edges, stood_edges}
use Rattle.transfer_refiner.specs.code.View.{draft_of}
use Rattle.transfer_refiner.proofs.edges.stood_edges.Given as goal

abbrev pub invariant-loop-jobs : goal.invariant-loop-jobs
invariant-loop-jobs l = l.edges.items ++ flat_map (part_edges (draft_of l.view)) (drop l.jobs-index l.view.parts.now) ≡ stood_edges (draft_of l.view)
