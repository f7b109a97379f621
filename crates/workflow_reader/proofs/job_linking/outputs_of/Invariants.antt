use Rattle.std.proofs.Common.{◌≡◌, ◌++◌, drop, map}
use Rattle.workflow_reader.specs.declared.document.Direction.TheVariants.{Output}
use Rattle.workflow_reader.specs.Linking.{uses_as, output_of}
use Rattle.workflow_reader.proofs.job_linking.outputs_of.Given as goal

abbrev pub invariant-loop-used : goal.invariant-loop-used
invariant-loop-used l = l.outputs.items ++ map (output_of l.files) (uses_as Output (drop l.used-index l.uses)) ≡ map (output_of l.files) (uses_as Output l.uses)
