-- What a graph says of its workflow.
use Rattle.std.specs.Prelude.{◌≡◌, ℕ, ◌<◌, ◌≤◌, List, [], ◌∷◌, length, map, Option, None, MatchOption, slice_index_or}
use Rattle.std.specs.List.{All}
use Rattle.values.specs.declared.numbers.JobId.{JobId}
use Rattle.workflow_core.specs.declared.workflow.Workflow.{Workflow}
use Rattle.digraph.specs.Adjacency.{AreNeighbours}
use Rattle.digraph.specs.Cycle.{Returns}
use Rattle.digraph.specs.Order.{IsTopologicalOrder}
use Rattle.dependency_graph.specs.Edges.{makers, edge}

-- A graph: for each file the job that makes it, for each job those before and after it, and the jobs in an order.
pub record Links : Type 0 where
  pub producers : List (Option JobId)
  pub parents : List (List JobId)
  pub children : List (List JobId)
  pub ordered : List JobId

abbrev pub numbers : List JobId → List ℕ
numbers js = map (λ (j : JobId). j.0) js

-- the list of a job: empty where there is no such job
abbrev pub jobs_at : List (List JobId) → ℕ → List JobId
jobs_at ls i = slice_index_or ls i []

-- the job that makes a file
abbrev pub producer_of_file : List (Option JobId) → ℕ → Option JobId
producer_of_file producers f = slice_index_or producers f None

-- Each file has at most one producer, and no job reaches itself.
pub record IsSound (w : Workflow) : Type 0 where
  pub one_producer : (f : ℕ) → f < length w.files → length (makers w f) ≤ 1
  pub no_return : (a : ℕ) → Returns (edge w) a → ⊥

-- The graph of a sound workflow. Its lists of jobs rise, and hold exactly the ends of the edges.
pub record IsGraphOf (w : Workflow) (g : Links) : Type 0 where
  pub sound : IsSound w
  pub files : length g.producers ≡ length w.files
  pub producer : (f : ℕ) → f < length w.files
      → MatchOption (producer_of_file g.producers f) (makers w f ≡ []) (λ (j : JobId). makers w f ≡ j.0 ∷ [])
  pub parents : AreNeighbours (λ b a. edge w a b) (length w.jobs) (map numbers g.parents)
  pub children : AreNeighbours (edge w) (length w.jobs) (map numbers g.children)
  pub in_range : All (λ (j : JobId). j.0 < length w.jobs) g.ordered
  pub order : IsTopologicalOrder (edge w) (length w.jobs) (numbers g.ordered)
