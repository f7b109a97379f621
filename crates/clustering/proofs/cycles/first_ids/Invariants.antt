use Rattle.std.proofs.Common.{◌≡◌, map, take}
use Rattle.dependency_graph.specs.code.Graph.{job_lists}
use Rattle.clustering.specs.code.Cycles.{first_id}
use Rattle.clustering.proofs.cycles.first_ids.Given as goal

abbrev pub invariant-loop-number : goal.invariant-loop-number
invariant-loop-number l = l.ids.items ≡ map (first_id l.workflow (job_lists l.parts)) (take l.number-index l.numbers)
