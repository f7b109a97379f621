use Rattle.std.proofs.Common.{◌≡◌}
use Rattle.transfer_refiner.specs.code.Steps.{writer_edges}
use Rattle.transfer_refiner.proofs.waiting.writer_edges.Given as goal

abbrev pub invariant-loop-task : goal.invariant-loop-task
invariant-loop-task l = l.edges.items ≡ writer_edges l.tasks l.task
