use Rattle.std.proofs.Common.{◌≡◌, ◌++◌, drop, map}
use Rattle.workflow_reader.specs.declared.document.Direction.TheVariants.{Input}
use Rattle.workflow_reader.specs.Linking.{uses_as, file_of}
use Rattle.workflow_reader.proofs.job_linking.inputs_of.Given as goal

abbrev pub invariant-loop-used : goal.invariant-loop-used
invariant-loop-used l = l.inputs.items ++ map (file_of l.files) (uses_as Input (drop l.used-index l.uses)) ≡ map (file_of l.files) (uses_as Input l.uses)
