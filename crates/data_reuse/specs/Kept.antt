-- The jobs that have to run: the least set that holds a job where one of its outputs is absent and is requested or is an input of a job in the set.
use Rattle.std.specs.Prelude.{◌≡◌, ℕ, ◌<◌, ◌&&◌, Bool, true, List, length, Decides}
use Rattle.std.specs.List.{list_any}
use Rattle.workflow_core.specs.declared.workflow.Workflow.{Workflow}
use Rattle.workflow_core.specs.Requested.{is_requested}
use Rattle.digraph.specs.Distances.{Walk}
use Rattle.dependency_graph.specs.Edges.{is_among, read_by, written_by}
use Rattle.dependency_graph.specs.Levels.{is_kept}

-- an output of the job is absent and requested
abbrev pub is_wanted : (ℕ → Bool) → Workflow → ℕ → Bool
is_wanted absent w a = list_any (λ f. absent f && is_requested w f) (written_by w a)

-- an output of job a is absent and is an input of job b
abbrev pub feeds : (ℕ → Bool) → Workflow → ℕ → ℕ → Bool
feeds absent w a b = list_any (λ f. absent f && is_among f (read_by w b)) (written_by w a)

-- The job is wanted, or feeds a job that feeds a job .. that is wanted.
pub record IsKept (absent : ℕ → Bool) (w : Workflow) (a : ℕ) : Type 0 where
  pub steps : ℕ
  pub last : ℕ
  pub way : Walk (feeds absent w) steps a last
  pub wanted : is_wanted absent w last ≡ true

-- a value for each job, which tells whether it is kept
pub record AreKept (absent : ℕ → Bool) (w : Workflow) (kept : List Bool) : Type 0 where
  pub long : length kept ≡ length w.jobs
  pub each : (a : ℕ) → a < length w.jobs → Decides (is_kept kept a) (IsKept absent w a)
