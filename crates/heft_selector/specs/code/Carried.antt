-- The bytes that jobs carry to one that reads some files.
use Rattle.std.specs.Prelude.{◌≡◌, ℕ, ◌+◌, ◌<◌, ◌≤◌, ◌==◌, ◌^◌, if◌then◌else◌, List, [], ◌∷◌, length, map, Option, Some, None, slice_index_or}
use Rattle.std.specs.List.{All}
use Rattle.values.specs.declared.numbers.FileId.{FileId}
use Rattle.values.specs.declared.numbers.JobId.{JobId}
use Rattle.workflow_core.specs.declared.workflow.Job.{Job}
use Rattle.digraph.specs.Adjacency.{neighbours}
use Rattle.dependency_graph.specs.Graph.{Links, jobs_at, producer_of_file}
use Rattle.heft_selector.specs.Costs.{size_at, seconds_for}

abbrev pub bytes_at : List ℕ → ℕ → ℕ
bytes_at bytes a = slice_index_or bytes a 0

-- so much, if job a is the maker
abbrev pub made_for : Option JobId → ℕ → ℕ → ℕ
made_for None a n = 0
made_for (Some j) a n = if j.0 == a then n else 0

-- the bytes of those of some files that job a makes
abbrev pub carried : List (Option JobId) → List (Option ℕ) → ℕ → List FileId → ℕ
carried producers sizes a [] = 0
carried producers sizes a (f ∷ fs) =
    made_for (producer_of_file producers f.0) a (size_at sizes f.0) + carried producers sizes a fs

-- the files are known, and their makers are among so many jobs
pub record AreMade (producers : List (Option JobId)) (count : ℕ)
    (files : List FileId) : Type 0 where
  pub below : All (λ (f : FileId). f.0 < length producers) files
  pub makers : (f : ℕ) (j : JobId) → producer_of_file producers f ≡ Some j → j.0 < count

-- what is carried to a job from its parents, in seconds
abbrev pub moves_by : Links → List (Option ℕ) → ℕ → List FileId → ℕ → List ℕ
moves_by g sizes rate fs b =
    map (λ (p : JobId). seconds_for (carried g.producers sizes p.0 fs) rate) (jobs_at g.parents b)

-- of each job the files are known and few, its parents are among the jobs, and what is carried to
-- it is little
pub record AreLists (g : Links) (jobs : List Job) (sizes : List (Option ℕ)) : Type 0 where
  pub parents : length g.parents ≡ length jobs
  pub few_jobs : length jobs ≤ 10000
  pub made : (a : ℕ) (j : Job) → a < length jobs → slice_index_or jobs a j ≡ j
      → AreMade g.producers (length jobs) j.inputs
  pub few : (a : ℕ) (j : Job) → a < length jobs → slice_index_or jobs a j ≡ j
      → length j.inputs ≤ 50000
  pub in_range : (a : ℕ) → All (λ (p : JobId). p.0 < length jobs) (jobs_at g.parents a)
  pub small : (a b : ℕ) (j : Job) → b < length jobs → slice_index_or jobs b j ≡ j
      → carried g.producers sizes a j.inputs < 2 ^ 60

-- beside the parents of each of the first n jobs its moves
pub record AreMoves (g : Links) (jobs : List Job) (sizes : List (Option ℕ)) (rate : ℕ)
    (moves : List (List ℕ)) (n : ℕ) : Type 0 where
  pub long : length moves ≡ n
  pub each : (a : ℕ) (j : Job) → a < n → slice_index_or jobs a j ≡ j
      → neighbours moves a ≡ moves_by g sizes rate j.inputs a
