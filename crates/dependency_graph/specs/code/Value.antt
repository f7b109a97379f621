-- Beside `specs/Value.antt`: what the code's own contracts say.
use Rattle.std.specs.Prelude.{◌≡◌, ℕ, ◌<◌, true, false, List, [], length, map, Option, is_some, slice_index_or}
use Rattle.values.specs.Apply.{all_of}
use Rattle.workflow_core.specs.declared.workflow.Workflow.{Workflow}
use Rattle.workflow_core.specs.declared.workflow.Job.{Job}
use Rattle.workflow_core.specs.WellFormed.{inputs_of}
use Rattle.dependency_graph.specs.Edges.{producer}
use Rattle.dependency_graph.specs.Value.{Basis, base_at, run_of, made_for, by_producer, value}

-- the tool of the job with this number
abbrev pub tool_at : Basis → ℕ → List ℕ
tool_at b a = slice_index_or b.tools a []

-- what a job makes in its workflow with its tool
abbrev pub made_by : Basis → Workflow → List ℕ → Job → Option (List (List ℕ))
made_by b w tool j = run_of b.apply tool j (all_of (map (value b w) (inputs_of j)))

-- each file that no job makes has its base
abbrev pub AllBased : Basis → Workflow → Type 0
AllBased b w = (f : ℕ) → f < length w.files → is_some (producer w.jobs f) ≡ false
    → is_some (base_at b f) ≡ true

-- what stands at each file is its base, or what its producer makes for it
abbrev pub IsValuation : Basis → Workflow → (ℕ → Option (List ℕ)) → Type 0
IsValuation b w v = (f : ℕ) → f < length w.files
    → v f ≡ by_producer (producer w.jobs f) (base_at b f) (made_for b w.jobs v f)
