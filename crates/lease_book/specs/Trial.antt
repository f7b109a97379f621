-- A state in which the start of one task is tried.
use Rattle.std.specs.Prelude.{◌≡◌, ℕ, []}
use Rattle.plan_core.specs.declared.plan.Plan.{Plan}
use Rattle.storage_simulation.specs.code.Standings.{IsStanding, held_of, phase_of}
use Rattle.storage_simulation.specs.Standings.{sizes}
use Rattle.storage_simulation.specs.Usage.{IsWithin}
use Rattle.lease_rules.specs.Choice.{start_event}
use Rattle.lease_rules.specs.State.{State, held_after, phase_after}
use Rattle.lease_book.specs.declared.trial.Trial.{Trial}
use Rattle.lease_book.specs.RunState.{HasLengths}

-- it has a place for each task and good of the plan
pub record HasPlace (p : Plan) (x : Trial) : Type 0 where
  pub standing : HasLengths p x.standing

-- it is the state after the task's start
pub record IsTrial (p : Plan) (s : State) (t : ℕ) (x : Trial) : Type 0 where
  pub phase : (u : ℕ) → phase_of x.standing u ≡ phase_after (start_event p 0 t) s.phase u
  pub held : (g : ℕ) → held_of x.standing g ≡ held_after p (start_event p 0 t) s.held g

-- and each place is within its bound
pub record IsTrialWithin (p : Plan) (s : State) (t : ℕ) (x : Trial) : Type 0 where
  pub tried : IsTrial p s t x
  pub standing : IsStanding p x.standing
  pub within : IsWithin p (sizes (held_of x.standing)) []
