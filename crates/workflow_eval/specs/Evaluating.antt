-- What an evaluation answers.
use Rattle.std.specs.Prelude.{◌≡◌, ℕ, ◌<◌, List, [], ◌∷◌, length, map, take, if◌then◌else◌, is_some, Option, Some, None, Result, Ok, Err, Vec, slice_index_or}
use Rattle.std.specs.declared.alloc.Global.{Global}
use Rattle.values.specs.declared.numbers.JobId.{JobId}
use Rattle.workflow_core.specs.declared.workflow.Workflow.{Workflow}
use Rattle.dependency_graph.specs.Value.{Basis, value}
use Rattle.dependency_graph.specs.code.Value.{made_by, tool_at}
use Rattle.workflow_eval.specs.declared.fault.EvalFault.{EvalFault}
use Rattle.workflow_eval.specs.declared.fault.EvalFault.TheVariants.{Declined, ToolFailed, Memory}

-- one value for each file, by number
pub record AreValues (b : Basis) (w : Workflow) (values : List (List ℕ)) : Type 0 where
  pub many : length values ≡ length w.files
  pub each : (f : ℕ) → f < length w.files → value b w f ≡ Some (slice_index_or values f [])

-- what the job with this number makes in its workflow: nothing where there is no such job
abbrev pub made_by_number : Basis → Workflow → ℕ → Option (List (List ℕ))
made_by_number b w a = slice_index_or (map (made_by b w (tool_at b a)) w.jobs) a None

-- the first job in this order of whose inputs' values its tool makes nothing
unfoldable pub first_undefined : Basis → Workflow → List JobId → Option ℕ
first_undefined b w [] = None
first_undefined b w (a ∷ order) = if is_some (made_by_number b w a.0) then first_undefined b w order
    else Some a.0

-- The job comes in this order, and each job before it makes something.
pub record IsReached (b : Basis) (w : Workflow) (order : List JobId) (j : JobId) : Type 0 where
  pub place : ℕ
  pub below : place < length order
  pub is : slice_index_or order place j ≡ j
  pub before : first_undefined b w (take place order) ≡ None

-- The answer of an evaluation in this order. `rose` says that the tool's count rose.
abbrev pub Evaluates : Basis → Workflow → List JobId → Type 0 → Result (Vec (List ℕ) Global) EvalFault
    → Type 0
Evaluates b w order rose (Ok values) = AreValues b w values.items × (first_undefined b w order ≡ None)
Evaluates b w order rose (Err (Declined j)) = (first_undefined b w order ≡ Some j.0) × (j.0 < length w.jobs)
Evaluates b w order rose (Err (ToolFailed j)) = rose × (j.0 < length w.jobs)
Evaluates b w order rose (Err Memory) = Unit {0}
