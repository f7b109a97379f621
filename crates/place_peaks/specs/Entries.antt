-- What each entry of a record finds, and leaves.
use Rattle.std.specs.Prelude.{◌≡◌, ℕ, true, List}
use Rattle.plan_core.specs.declared.plan.Plan.{Plan}
use Rattle.plan_core.specs.Words.{cleans}
use Rattle.storage_simulation.specs.Standings.{sizes}
use Rattle.run_record.specs.declared.entry.Cause.{Cause}
use Rattle.run_record.specs.Events.{Event, Again, Clean}
use Rattle.lease_rules.specs.Legal.{Allowed}
use Rattle.lease_rules.specs.State.{State}
use Rattle.place_peaks.specs.declared.peaks.Peaks.{Peaks}
use Rattle.place_peaks.specs.Peaks.{AreBehind, HasPassed, stack_of}
use Rattle.place_peaks.specs.Ready.{IsIndexed}
use Rattle.place_peaks.specs.Waiting.{HasStackRoom}

-- the stack has room for every task, and no task before the front is left
abbrev pub IsWhole : Plan → Peaks → Type 0
IsWhole p b = HasStackRoom p b × HasPassed b

-- The trees say what the state is, and the index which tasks can be asked for room.
pub record AreTied (p : Plan) (s : State) (b : Peaks) : Type 0 where
  pub behind : AreBehind p s b (stack_of b)
  pub whole : IsWhole p b
  pub indexed : IsIndexed p b

-- in a state to which the trees are tied, the entry of some worker is allowed
pub record CanEnter (p : Plan) (b : Peaks) (entry : ℕ → Event) : Type 0 where
  pub state : State
  pub worker : ℕ
  pub tied : AreTied p state b
  pub allowed : Allowed p state (entry worker)

-- what is held of the good that a task cleans
abbrev pub Frees : Plan → State → ℕ → ℕ → Type 0
Frees p s t n = (g : ℕ) → cleans p t g ≡ true → sizes s.held g ≡ n

-- a Clean can be entered, and frees so much; a task can be tried again, and frees so much if it is a Clean
pub record CanClean (p : Plan) (b : Peaks) (t n : ℕ) : Type 0 where
  pub enters : CanEnter p b (λ w. Clean w t)
  pub frees : Frees p enters.state t n

-- some worker's Again of the task is allowed, and this is held of what its Clean would free
pub record CanTryAgain (p : Plan) (b : Peaks) (t n : ℕ) : Type 0 where
  pub cause : Cause
  pub published : List ℕ
  pub enters : CanEnter p b (λ w. Again w t cause published)
  pub frees : Frees p enters.state t n
