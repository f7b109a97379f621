-- What is added to a record that is gone on with: by the lost tasks' own workers, and then by the first worker alone.
use Rattle.std.specs.Prelude.{◌≡◌, ◌⊎◌, ℕ, ◌<◌, ◌++◌, false, List, [], length}
use Rattle.plan_core.specs.declared.plan.Plan.{Plan}
use Rattle.plan_core.specs.Words.{count_tasks}
use Rattle.run_record.specs.Events.{Event}
use Rattle.lease_rules.specs.State.{now}
use Rattle.site_yard.specs.code.Failures.{RoseBy, tool_faults}
use Rattle.worker_gate.specs.code.Alone.{AllBy, IsOver, TakeFirst}
use Rattle.plan_run.specs.Moments.{MemberMoment}
use Rattle.plan_run.specs.code.Moments.{count_of}
use Rattle.resume_run.specs.Lost.{lost_below}
use Rattle.resume_run.specs.Redoing.{AreDone, EndAtFail}

-- the tasks that a record r left open were done, each by its entry, and no Fail stands
pub record AllRedone (p : Plan) (order : List ℕ) (r redone : List Event) : Type 0 where
  pub all : length redone ≡ length (lost_below (now p order r) (count_tasks p))
  pub unfailing : (now p order (r ++ redone)).failing ≡ false

-- What is added after a record r: first one entry for each task that it left open, by its own worker, of which a Fail is the
-- last; and then, where all of them were done and no Fail stands, worker 0's, each of which begins what is left first, so that
-- tasks begin in the order that was kept.
pub record IsInOrder (p : Plan) (order : List ℕ) (r added : List Event) : Type 0 where
  pub redone : List Event
  pub later : List Event
  pub parts : added ≡ redone ++ later
  pub done : AreDone (lost_below (now p order r) (count_tasks p)) redone
  pub stops : EndAtFail redone
  pub goes_on : (later ≡ []) ⊎ AllRedone p order r redone
  pub by_zero : AllBy 0 later
  pub first : TakeFirst p (now p order (r ++ redone)) later

-- What is added after a record r until it is over. Each member's count shows the failures of its worker's new entries.
pub record WorksOn (p : Plan) (order : List ℕ) (r after : List Event)
    (before later : List MemberMoment) : Type 0 where
  pub added : List Event
  pub is : after ≡ r ++ added
  pub in_order : IsInOrder p order r added
  pub over : IsOver p (now p order after)
  pub tools : (k : ℕ) → k < 16 → RoseBy (tool_faults k added) (count_of before k) (count_of later k)
