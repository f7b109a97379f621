use Rattle.std.proofs.Common.{◌≡◌, length, map, take}
use Rattle.workflow_core.specs.declared.workflow.Output.{Output}
use Rattle.dependency_graph.specs.code.Makers.{AreNoted}
use Rattle.dependency_graph.proofs.makers.note.Given as goal

abbrev pub invariant-loop-output : goal.invariant-loop-output
invariant-loop-output l = (length l.table.items ≡ length l.initial.table.items) × AreNoted l.initial.table.items l.table.items l.job (map (λ (o : Output). o.file.0) (take l.output-index l.outputs))
