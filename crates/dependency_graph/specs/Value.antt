-- The value of a file: its base where no job makes it, else what its producer makes of the values of the producer's inputs.
use Rattle.std.specs.Prelude.{ℕ, zero, suc, List, [], ◌∷◌, length, map, if◌then◌else◌, Option, Some, None, option_and_then, slice_index_or}
use Rattle.values.specs.Apply.{Apply, all_of, part}
use Rattle.workflow_core.specs.declared.workflow.Workflow.{Workflow}
use Rattle.workflow_core.specs.declared.workflow.Job.{Job}
use Rattle.workflow_core.specs.WellFormed.{inputs_of, outputs_of}
use Rattle.dependency_graph.specs.Edges.{has_output, producer}

-- What values stand on: what tools make, the tool of each job and the base of each file, by number.
pub record Basis : Type 0 where
  pub apply : Apply
  pub tools : List (List ℕ)
  pub bases : List (Option (List ℕ))

abbrev pub basis : Apply → List (List ℕ) → List (Option (List ℕ)) → Basis
basis apply tools bases = record { apply = apply; tools = tools; bases = bases }

-- the base of a file
abbrev pub base_at : Basis → ℕ → Option (List ℕ)
base_at b f = slice_index_or b.bases f None

-- the tool of a file's producer, among jobs and their tools
abbrev pub tool_for : List Job → List (List ℕ) → ℕ → List ℕ
tool_for [] tools f = []
tool_for (j ∷ js) [] f = []
tool_for (j ∷ js) (t ∷ tools) f = if has_output f j then t else tool_for js tools f

-- what a job makes of its inputs with a tool
abbrev pub run_of : Apply → List ℕ → Job → Option (List (List ℕ)) → Option (List (List ℕ))
run_of apply tool j ins = option_and_then (λ vs. apply tool j.arguments vs (length j.outputs)) ins

-- what a file's producer makes for it of what stands at the producer's inputs
abbrev pub made_for : Basis → List Job → (ℕ → Option (List ℕ)) → ℕ → Job → Option (List ℕ)
made_for b js v f j = option_and_then (part f (outputs_of j))
    (run_of b.apply (tool_for js b.tools f) j (all_of (map v (inputs_of j))))

-- what is made by a file's producer, or the base
abbrev pub by_producer : Option Job → Option (List ℕ) → (Job → Option (List ℕ)) → Option (List ℕ)
by_producer None base make = base
by_producer (Some j) base make = make j

-- The value of a file, down at most k edges. A workflow of n jobs without a cycle has no way of more than n jobs.
unfoldable pub value_within : Basis → List Job → ℕ → ℕ → Option (List ℕ)
value_within b js zero f = by_producer (producer js f) (base_at b f) (λ j. None)
value_within b js (suc k) f = by_producer (producer js f) (base_at b f)
    (made_for b js (value_within b js k) f)

abbrev pub value : Basis → Workflow → ℕ → Option (List ℕ)
value b w f = value_within b w.jobs (length w.jobs) f
