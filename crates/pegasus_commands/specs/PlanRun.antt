-- A run of a plan of the documents: what it delivers, why nothing is run, and what keeps nothing from being run.
use Rattle.std.specs.Prelude.{◌≡◌, ℕ, true, List, [], slice_index_or, Option, is_some, IfSome, MatchOption}
use Rattle.std.specs.FinMap as files
use Rattle.values.specs.FileMap.{Files}
use Rattle.outside.specs.declared.store.Store.{Store}
use Rattle.planner.specs.Deliveries.{IsRequested}
use Rattle.planner.specs.Meaning.{AreHonest, value_of}
use Rattle.planner.specs.declared.inputs.Survey.{Survey}
use Rattle.planner.specs.declared.surveyed.Surveyed.{Surveyed}
use Rattle.plan_run.specs.Finishing.{replicas_of}
use Rattle.plan_run.specs.Moments.{Work}

-- a file's name in its workflow, and its value over the replicas of a store
abbrev pub lfn : Survey → ℕ → List ℕ
lfn s f = slice_index_or s.workflow.files f []

abbrev pub AreHonestIn : Work → Surveyed → Store → Type 0
AreHonestIn w s m = AreHonest w.apply (replicas_of m) s.request s.survey

abbrev pub value_in : Work → Surveyed → Store → ℕ → Option (List ℕ)
value_in w s m f = value_of w.apply (replicas_of m) s.request s.survey f

-- the host told what it held, still tells, and of the two stores this holds
abbrev pub ShownBy : Work → (Store → Store → Type 0) → Type 0
ShownBy w Holds = IfSome w.before.told (λ old. MatchOption w.after.told ⊥ (λ new. Holds old new))

-- Each requested file stands at its name with content of which this holds, and every other name is as it was.
pub record AreSet (s : Surveyed) (Holds : ℕ → Option (List ℕ) → Type 0) (old new : Files) : Type 0 where
  pub each : (f : ℕ) → IsRequested s.survey f
      → is_some (files.get new (lfn s.survey f)) ≡ true × Holds f (files.get new (lfn s.survey f))
  pub others : (name : List ℕ) → ((f : ℕ) → IsRequested s.survey f → lfn s.survey f ≡ name → ⊥)
      → files.get new name ≡ files.get old name
