use Rattle.std.proofs.Common.{◌≡◌, ◌&&◌, not, drop}
use Rattle.std.specs.Prelude.{◌==◌}
use Rattle.std.specs.List.{list_any}
use Rattle.workflow_core.specs.declared.workflow.Output.{Output}
use Rattle.rehearsal.proofs.mosaic.has_other.Given as goal

abbrev pub invariant-loop-output : goal.invariant-loop-output
invariant-loop-output l =
    list_any (λ (o : Output). o.stage_out && not (o.file.0 == l.file.0)) (drop l.output-index l.outputs)
    ≡ list_any (λ (o : Output). o.stage_out && not (o.file.0 == l.file.0)) l.outputs
