use Rattle.std.proofs.Common.{◌≡◌, ◌++◌, drop, map}
use Rattle.ensemble.specs.Jobs.{output_after}
use Rattle.ensemble.proofs.jobs.outputs_after.Given as goal

abbrev pub invariant-loop-output : goal.invariant-loop-output
invariant-loop-output l = l.later.items ++ map (output_after l.first) (drop l.output-index l.outputs) ≡ map (output_after l.first) l.outputs
