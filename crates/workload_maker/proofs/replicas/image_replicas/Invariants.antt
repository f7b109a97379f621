use Rattle.std.proofs.Common.{◌≡◌}
use Rattle.workload_maker.specs.Jobs.{each}
use Rattle.workload_maker.specs.Replicas.{image_of}
use Rattle.workload_maker.proofs.replicas.image_replicas.Given as goal

abbrev pub invariant-loop-number : goal.invariant-loop-number
invariant-loop-number l = l.images.items ≡ each l.number image_of
