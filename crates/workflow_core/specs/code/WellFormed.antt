-- Beside `specs/WellFormed.antt`: what the code's own contracts say.
use Rattle.std.specs.Prelude.{◌≡◌, ℕ, ◌<◌, ◌≤◌, ◌^◌, ◌&&◌, ◌++◌, Bool, true, not, List, [], ◌∷◌, length, map, nat_eq, Option, Some, None}
use Rattle.std.specs.List.{list_any, AllByRecursion}
use Rattle.std.specs.Str.{bytes_eq}
use Rattle.values.specs.declared.numbers.JobId.{JobId}
use Rattle.workflow_core.specs.declared.workflow.Workflow.{Workflow}
use Rattle.workflow_core.specs.declared.workflow.Job.{Job}
use Rattle.workflow_core.specs.WellFormed.{inputs_of, outputs_of, parent_of, child_of}

-- each is none of those that are known, and none of those before it
abbrev pub are_new : {A : Type 0} → (A → A → Bool) → List A → List A → Bool
are_new eq known [] = true
are_new eq known (x ∷ xs) = not (list_any (eq x) known) && are_new eq (known ++ x ∷ []) xs

abbrev pub are_distinct : {A : Type 0} → (A → A → Bool) → List A → Bool
are_distinct eq xs = are_new eq [] xs

-- A job's files are among so many, and none comes twice with one type.
pub record IsJobOver (files : ℕ) (j : Job) : Type 0 where
  pub inputs : AllByRecursion (λ f. f < files) (inputs_of j)
  pub outputs : AllByRecursion (λ f. f < files) (outputs_of j)
  pub inputs_once : are_distinct nat_eq (inputs_of j) ≡ true
  pub outputs_once : are_distinct nat_eq (outputs_of j) ≡ true

-- a declared size is at most 2^40 bytes
abbrev pub IsSmallSize : Option ℕ → Type 0
IsSmallSize None = Unit {0}
IsSmallSize (Some n) = n ≤ 2 ^ 40

-- Jobs and files are few, declared sizes are small, names are distinct, and every number is in range.
pub record IsWellFormed (w : Workflow) : Type 0 where
  pub few_jobs : length w.jobs ≤ 10000
  pub few_files : length w.files ≤ 50000
  pub sizes : length w.sizes ≡ length w.files
  pub small_sizes : AllByRecursion IsSmallSize w.sizes
  pub ids : are_distinct bytes_eq (map (λ (j : Job). j.id) w.jobs) ≡ true
  pub names : are_distinct bytes_eq w.files ≡ true
  pub jobs : AllByRecursion (IsJobOver (length w.files)) w.jobs
  pub pairs : AllByRecursion (λ (p : JobId × JobId). (parent_of p < length w.jobs)
      × (child_of p < length w.jobs)) w.pairs
