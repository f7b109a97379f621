-- The files of marked outputs, listed.
use Rattle.std.specs.Prelude.{ℕ, List, [], ◌∷◌, cond}
use Rattle.std.specs.List.{flat_map}
use Rattle.workflow_core.specs.declared.workflow.Job.{Job}
use Rattle.workflow_core.specs.declared.workflow.Output.{Output}

abbrev pub requested_by : List Output → List ℕ
requested_by = flat_map (λ (o : Output). cond o.stage_out (o.file.0 ∷ []) [])

abbrev pub flagged_by : List Output → List ℕ
flagged_by = flat_map (λ (o : Output). cond o.register (o.file.0 ∷ []) [])

abbrev pub all_requested : List Job → List ℕ
all_requested = flat_map (λ (j : Job). requested_by j.outputs)

abbrev pub all_flagged : List Job → List ℕ
all_flagged = flat_map (λ (j : Job). flagged_by j.outputs)
