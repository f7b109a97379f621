use Rattle.std.proofs.Common.{◌≡◌, length}
use Rattle.std.specs.Vec.Iter.{into_iter_items}
use Rattle.dependency_graph.specs.code.Graph.{job_lists}
use Rattle.clustering.proofs.GatheringLemmas.{Gathers}
use Rattle.clustering.proofs.gathering.gather.Given as goal

abbrev pub invariant-loop-job : goal.invariant-loop-job
invariant-loop-job g l = (length l.known.keys ≡ length l.parts.items) × Gathers g.K.PartialEq.eq l.fn.keyed.items l.known.keys (job_lists l.parts.items) (into_iter_items l.job-iterator)
