-- The state that arrays show.
use Rattle.std.specs.Prelude.{◌≡◌, ℕ, ◌≤◌, ◌++◌, [], false, filter, length, vec_capacity}
use Rattle.plan_core.specs.declared.plan.Plan.{Plan}
use Rattle.plan_core.specs.Words.{count_pairs, count_tasks}
use Rattle.storage_simulation.specs.declared.standing.Standing.{Standing}
use Rattle.storage_simulation.specs.code.Standings.{at_in, held_of, phase_of}
use Rattle.lease_rules.specs.State.{State}
use Rattle.place_peaks.specs.Entries.{AreTied}
use Rattle.place_peaks.specs.Links.{AreLinks}
use Rattle.place_peaks.specs.Peaks.{left_of, line_of, stack_of}
use Rattle.lease_book.specs.declared.state.RunState.{RunState}

abbrev pub state_of : RunState → State
state_of s = record {
  phase = phase_of s.standing;
  holder = at_in 0 s.holders.items;
  agains = at_in 0 s.agains.items;
  failed = at_in false s.failed.items;
  held = held_of s.standing;
  failing = s.failing;
  rest = stack_of s.peaks ++ filter (left_of s.peaks) (line_of s.peaks);
}

-- one value for each pair and task, and room for an order of all tasks
pub record HasLengths (p : Plan) (st : Standing) : Type 0 where
  pub pairs : length st.held ≡ count_pairs p
  pub tasks : length st.tasks ≡ count_tasks p
  pub deliveries : length st.deliveries ≡ count_tasks p

-- each list of a state is as long as the plan asks for
pub record HasRoom (p : Plan) (s : RunState) : Type 0 where
  pub standing : HasLengths p s.standing
  pub holders : length s.holders.items ≡ count_tasks p
  pub agains : length s.agains.items ≡ count_tasks p
  pub failed : length s.failed.items ≡ count_tasks p
  pub levels : count_tasks p ≤ vec_capacity s.levels

-- the trees are those of the state, and the links those of the plan
pub record HasPeaks (p : Plan) (s : RunState) : Type 0 where
  pub tied : AreTied p (state_of s) s.peaks
  pub links : AreLinks p s.links

-- two states with the same parts
pub record IsSame (a b : State) : Type 0 where
  pub phase : (t : ℕ) → a.phase t ≡ b.phase t
  pub holder : (t : ℕ) → a.holder t ≡ b.holder t
  pub agains : (t : ℕ) → a.agains t ≡ b.agains t
  pub failed : (t : ℕ) → a.failed t ≡ b.failed t
  pub held : (g : ℕ) → a.held g ≡ b.held g
  pub failing : a.failing ≡ b.failing
  pub rest : a.rest ≡ b.rest

-- no task waits again: rest is what is left of the line
abbrev pub LineIsRest : RunState → Type 0
LineIsRest s = stack_of s.peaks ≡ []
