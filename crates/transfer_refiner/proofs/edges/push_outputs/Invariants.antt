use Rattle.std.proofs.Common.{◌≡◌, ◌++◌, drop, map}
use Rattle.workflow_core.specs.declared.workflow.Output.{Output}
use Rattle.transfer_refiner.specs.code.Edges.{fan}
use Rattle.transfer_refiner.proofs.edges.push_outputs.Given as goal

abbrev pub invariant-loop-output : goal.invariant-loop-output
invariant-loop-output l = l.edges.items ++ fan l.from (map (λ (o : Output). o.file.0) (drop l.output-index l.outputs)) ≡ l.fn.edges.items ++ fan l.from (map (λ (o : Output). o.file.0) l.outputs)
