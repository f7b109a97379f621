-- What the host and the tools show before and after a run.
use Rattle.std.specs.Prelude.{ℕ, Bool, List, [], get_or, Option, None}
use Rattle.values.specs.Apply.{Apply}
use Rattle.outside.specs.declared.counts.Counts.{Counts}
use Rattle.outside.specs.declared.store.Store.{Store}
use Rattle.run_record.specs.Events.{Event}

-- What the host holds, where it is told, its counts, and of the first member of the crew how often its tool has failed, how
-- often it was run, if it tells, and which entries its gate was told.
pub record WorkMoment : Type 0 where
  pub told : Option Store
  pub counts : Counts
  pub tool : ℕ
  pub runs : ℕ
  pub entered : List (ℕ × Event)

-- what the work meets: what the tool makes and knows, the host and the tool before and after
pub record Work : Type 0 where
  pub apply : Apply
  pub known : List ℕ → Bool
  pub before : WorkMoment
  pub after : WorkMoment

-- How often the tool of a member of the crew has failed; how often it was run, if it tells; the tasks for which its
-- gate was asked, in order, None where no gate is asked; and the entries that its gate was told, in order, each with
-- its place.
pub record MemberMoment : Type 0 where
  pub faults : ℕ
  pub runs : ℕ
  pub asked : Option (List ℕ)
  pub told : List (ℕ × Event)

-- what each member of the crew shows of its tool and its gate, in order, before and after
pub record Tools : Type 0 where
  pub before : List MemberMoment
  pub after : List MemberMoment

-- a member that asks no gate
abbrev pub gateless : ℕ → ℕ → List (ℕ × Event) → MemberMoment
gateless n runs entered = record { faults = n; runs = runs; asked = None; told = entered }

-- what a member of a crew shows
abbrev pub shown_of : List MemberMoment → ℕ → MemberMoment
shown_of ms k = get_or ms k (gateless 0 0 [])

abbrev pub told_of : List MemberMoment → ℕ → List (ℕ × Event)
told_of ms k = (shown_of ms k).told
