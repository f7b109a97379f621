use Rattle.std.proofs.Common.{◌≡◌}
use Rattle.workload_maker.specs.Jobs.{each}
use Rattle.workload_maker.specs.Workflow.{bg}
use Rattle.workload_maker.proofs.workflow.all_bgs.Given as goal

abbrev pub invariant-loop-number : goal.invariant-loop-number
invariant-loop-number l = l.files.items ≡ each l.number bg
