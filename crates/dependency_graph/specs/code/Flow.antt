-- How values flow along an order of jobs.
use Rattle.std.specs.Prelude.{◌≡◌, ℕ, ◌<◌, ◌||◌, not, Bool, true, List, length, take, is_some, option_and_then, slice_index_or}
use Rattle.std.specs.List.{list_any}
use Rattle.values.specs.declared.numbers.JobId.{JobId}
use Rattle.values.specs.Apply.{part}
use Rattle.workflow_core.specs.declared.workflow.Workflow.{Workflow}
use Rattle.workflow_core.specs.declared.workflow.Job.{Job}
use Rattle.workflow_core.specs.WellFormed.{outputs_of}
use Rattle.dependency_graph.specs.Edges.{is_among, has_output, producer, read_by, written_by}
use Rattle.dependency_graph.specs.Value.{Basis, base_at, value}
use Rattle.dependency_graph.specs.code.Value.{tool_at, made_by}

-- one of these jobs makes the file
abbrev pub is_written : Workflow → List JobId → ℕ → Bool
is_written w js f = list_any (λ (a : JobId). is_among f (written_by w a.0)) js

-- no job makes the file
abbrev pub is_base : Workflow → ℕ → Bool
is_base w f = not (is_some (producer w.jobs f))

-- one of these jobs makes the file, or none has to
abbrev pub is_there : Workflow → List JobId → ℕ → Bool
is_there w js f = is_base w f || is_written w js f

-- What a job reads is there before it, and all is there at the end. A file that no job makes is worth its base, an output of a job its part of what the job makes.
pub record FlowsAlong (w : Workflow) (order : List JobId) : Type 0 where
  pub inputs : (i : ℕ) (a : JobId) → i < length order → slice_index_or order i a ≡ a → (f : ℕ)
      → is_among f (read_by w a.0) ≡ true → is_there w (take i order) f ≡ true
  pub files : (f : ℕ) → f < length w.files → is_there w order f ≡ true
  pub bases : (b : Basis) (f : ℕ) → is_base w f ≡ true → value b w f ≡ base_at b f
  pub outputs : (b : Basis) (a f : ℕ) (j : Job) → a < length w.jobs → slice_index_or w.jobs a j ≡ j
      → has_output f j ≡ true → value b w f ≡ option_and_then (part f (outputs_of j))
      (made_by b w (tool_at b a) j)
