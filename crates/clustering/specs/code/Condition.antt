-- What clusters have to be, so that tasks can be made of them.
use Rattle.std.specs.Prelude.{◌≡◌, ℕ, ◌<◌, ◌≤◌, ◌==◌, ◌&&◌, Bool, true, false, not, List, [], ◌∷◌, ◌++◌, length, slice_index_or}
use Rattle.std.specs.List.{list_any}
use Rattle.values.specs.declared.numbers.JobId.{JobId}
use Rattle.workflow_core.specs.declared.workflow.Workflow.{Workflow}
use Rattle.digraph.specs.Cycle.{Returns}
use Rattle.dependency_graph.specs.Edges.{edge, is_among, read_by, written_by}
use Rattle.dependency_graph.specs.Levels.{is_kept}
use Rattle.dependency_graph.specs.Graph.{numbers as job_numbers}

abbrev pub part_of : List (List JobId) → ℕ → List JobId
part_of ps c = slice_index_or ps c []

-- an edge leads from a job of part a to one of another part b
abbrev pub leads : Workflow → List (List JobId) → ℕ → ℕ → Bool
leads w ps a b = not (a == b) && list_any (λ i. list_any (λ j. edge w i j) (job_numbers (part_of ps b)))
    (job_numbers (part_of ps a))

abbrev pub writes : Workflow → ℕ → JobId → Bool
writes w f i = is_among f (written_by w i.0)

-- each job's inputs that jobs of its part make are made by jobs before it
abbrev pub IsOrdered : Workflow → List JobId → Type 0
IsOrdered w js = (done later : List JobId) (j : JobId) → js ≡ done ++ j ∷ later → (f : ℕ)
    → is_among f (read_by w j.0) ≡ true → list_any (writes w f) js ≡ true → list_any (writes w f) done ≡ true

-- no job stands twice
abbrev pub IsOnce : List JobId → Type 0
IsOnce js = (done later : List JobId) (j : JobId) → js ≡ done ++ j ∷ later
    → is_among j.0 (job_numbers later) ≡ false

-- a part has a first job, and it is kept
abbrev pub BeginsKept : List Bool → List JobId → Type 0
BeginsKept kept [] = ⊥
BeginsKept kept (j ∷ js) = is_kept kept j.0 ≡ true

-- Each kept job is in at most one part, once, after those of its part whose files it reads; no part is empty, and no parts lead round.
pub record AreParts (w : Workflow) (kept : List Bool) (ps : List (List JobId)) : Type 0 where
  pub kept_jobs : (c j : ℕ) → is_among j (job_numbers (part_of ps c)) ≡ true → is_kept kept j ≡ true
  pub below : (c j : ℕ) → is_among j (job_numbers (part_of ps c)) ≡ true → j < length kept
  pub one_part : (a b j : ℕ) → is_among j (job_numbers (part_of ps a)) ≡ true
      → is_among j (job_numbers (part_of ps b)) ≡ true → a ≡ b
  pub once : (c : ℕ) → IsOnce (part_of ps c)
  pub few : length ps ≤ length kept
  pub begins : (c : ℕ) → c < length ps → BeginsKept kept (part_of ps c)
  pub ordered : (c : ℕ) → IsOrdered w (part_of ps c)
  pub acyclic : (c : ℕ) → Returns (leads w ps) c → ⊥
