-- Beside `specs/Built.antt`: what the code's own contracts say.
use Rattle.std.specs.Prelude.{◌≡◌, ℕ, ◌<◌, ◌≤◌, List, [], ◌∷◌, length, map, Result, Ok, Err, Option, MatchOption, Vec, slice_index_or}
use Rattle.std.specs.declared.alloc.Global.{Global}
use Rattle.values.specs.declared.numbers.JobId.{JobId}
use Rattle.workflow_core.specs.declared.workflow.Workflow.{Workflow}
use Rattle.workflow_core.specs.declared.workflow.Job.{Job}
use Rattle.digraph.specs.code.Cycle.{IsNamedCycle}
use Rattle.dependency_graph.specs.declared.fault.GraphFault.{GraphFault}
use Rattle.dependency_graph.specs.declared.fault.GraphFault.TheVariants.{TwoProducers, Cycle, Memory}
use Rattle.dependency_graph.specs.Edges.{makers, edge}
use Rattle.dependency_graph.specs.Graph.{Links, IsGraphOf, producer_of_file}
use Rattle.dependency_graph.specs.Built.{workflow_file_name}

abbrev pub id_of : Workflow → ℕ → List ℕ
id_of w a = slice_index_or (map (λ (j : Job). j.id) w.jobs) a []

-- The first file by number that two jobs make, and the first two of them.
pub record IsContested (w : Workflow) (file first second : ℕ) : Type 0 where
  pub later : List ℕ
  pub is : makers w file ≡ first ∷ second ∷ later
  pub in_range : file < length w.files
  pub least : (f : ℕ) → f < file → length (makers w f) ≤ 1

-- the same as texts
pub record AreTwoProducers (w : Workflow) (name one two : List ℕ) : Type 0 where
  pub file : ℕ
  pub first : ℕ
  pub second : ℕ
  pub contested : IsContested w file first second
  pub name_is : name ≡ workflow_file_name w file
  pub one_is : one ≡ id_of w first
  pub two_is : two ≡ id_of w second

-- No file has two producers, and these are the ids of the named cycle.
pub record AreCycle (w : Workflow) (ids : List (List ℕ)) : Type 0 where
  pub one_producer : (f : ℕ) → f < length w.files → length (makers w f) ≤ 1
  pub jobs : List ℕ
  pub cycle : IsNamedCycle (edge w) jobs
  pub ids_are : ids ≡ map (id_of w) jobs

-- what the search for two producers answers: the one producer of each file, if it has one
pub record AreProducers (w : Workflow) (producers : List (Option JobId)) : Type 0 where
  pub long : length producers ≡ length w.files
  pub each : (f : ℕ) → f < length w.files
      → MatchOption (producer_of_file producers f) (makers w f ≡ []) (λ (j : JobId). makers w f ≡ j.0 ∷ [])

abbrev pub FindsProducers : Workflow → Result (Vec (Option JobId) Global) GraphFault → Type 0
FindsProducers w (Ok v) = AreProducers w v.items
FindsProducers w (Err (TwoProducers name one two)) = AreTwoProducers w name one two
FindsProducers w (Err (Cycle ids)) = ⊥
FindsProducers w (Err Memory) = Unit {0}

-- the answer, want of memory aside
abbrev pub Builds : Workflow → Result Links GraphFault → Type 0
Builds w (Ok g) = IsGraphOf w g
Builds w (Err (TwoProducers name one two)) = AreTwoProducers w name one two
Builds w (Err (Cycle ids)) = AreCycle w ids
Builds w (Err Memory) = Unit {0}
