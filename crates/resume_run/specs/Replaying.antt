-- What a record comes to that is replayed without its Fails.
use Rattle.std.specs.Prelude.{◌≡◌, ℕ, not, filter, List, Result, Ok, Err}
use Rattle.plan_core.specs.declared.plan.Plan.{Plan}
use Rattle.plan_core.specs.Words.{count_tasks, task_numbers}
use Rattle.run_record.specs.Events.{Event}
use Rattle.lease_rules.specs.Legal.{Legal}
use Rattle.lease_rules.specs.code.Reading.{is_fail}
use Rattle.lease_book.specs.declared.book.Book.{Book}
use Rattle.lease_book.specs.Book.{state_at}
use Rattle.record_audit.specs.Verdict.{IsIllegalAt}
use Rattle.resume_run.specs.Lost.{lost_below}
use Rattle.resume_run.specs.declared.lost.Lost.{Lost}
use Rattle.resume_run.specs.declared.replaying.ReplayFault.{ReplayFault}
use Rattle.resume_run.specs.declared.replaying.ReplayFault.TheVariants.{Illegal, Memory}
use Rattle.resume_run.specs.declared.replaying.Replayed.{Replayed}

-- a record without its Fails
abbrev pub without_fails : List Event → List Event
without_fails r = filter (λ e. not (is_fail e)) r

-- a book of the plan and the order whose record has these entries
pub record HasFollowed (p : Plan) (order : List ℕ) (r : List Event) (b : Book) : Type 0 where
  pub plan : b.plan ≡ p
  pub order_is : task_numbers b.order.items ≡ order
  pub history : b.history.events ≡ r

-- a book at the record without its Fails, and the tasks that are open in it, by number
pub record IsReplayed (p : Plan) (order : List ℕ) (r : List Event) (b : Book)
    (lost : List Lost) : Type 0 where
  pub followed : HasFollowed p order (without_fails r) b
  pub lost_are : lost ≡ lost_below (state_at b) (count_tasks p)

-- A Legal record is replayed; of another one the first entry that isn't allowed is told, as an audit tells it. Want of
-- memory is free.
abbrev pub Replays : Plan → List ℕ → List Event → Result Replayed ReplayFault → Type 0
Replays p order r (Ok x) = Legal p order r × IsReplayed p order r x.book x.lost.items
Replays p order r (Err (Illegal k)) = IsIllegalAt p order r k
Replays p order r (Err Memory) = Unit {0}
