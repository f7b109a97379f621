-- What several workers leave of a yard.
use Rattle.std.specs.Prelude.{◌≡◌, ℕ, ◌≤◌, ◌<◌, Bool, false, List, length, get_or, IfSome, Result}
use Rattle.values.specs.Apply.{Apply}
use Rattle.values.specs.declared.memory.Memory.{Memory}
use Rattle.plan_core.specs.declared.plan.Plan.{Plan}
use Rattle.run_record.specs.Events.{Event}
use Rattle.lease_rules.specs.State.{now}
use Rattle.ruled_lock.specs.declared.lock.RuledLock.{RuledLock}
use Rattle.ruled_lock.specs.declared.pass.Pass.{Pass}
use Rattle.ruled_lock.specs.Lock.{IsOf}
use Rattle.ruled_lock.specs.Pass.{IsIdle, IsSamePass, charter_of, mine_of, seen_of, worker_of}
use Rattle.site_yard.specs.code.Failures.{RoseBy, tool_faults}
use Rattle.site_yard.specs.Faults.{AllBelow}
use Rattle.site_yard.specs.declared.chronicle.Charter.{Charter}
use Rattle.worker_gate.specs.declared.hands.Hand.{Hand}
use Rattle.worker_gate.specs.code.Alone.{IsOver, NoneOpen}
use Rattle.worker_gate.specs.code.Asking.{AsksOwn}
use Rattle.worker_gate.specs.code.Inputs.{AddsOfInputs}
use Rattle.worker_gate.specs.code.Turning.{IsPlanOf, NoneOpenBy, plan_of}
use Rattle.worker_gate.specs.code.Working.{Works}

-- The record of n workers: every entry is by a worker below n, and no task is open. Unless it was not begun, all tasks
-- have ended and no Fail stands, or one does.
pub record WorksMany (p : Plan) (order : List ℕ) (n : ℕ) (unstarted : Bool) (r : List Event) : Type 0 where
  pub below : AllBelow n r
  pub none_open : NoneOpen (now p order r)
  pub over : unstarted ≡ false → IsOver p (now p order r)

-- How often each worker's tool has failed: member k's count has not fallen, and rose as often as entries of worker k say.
pub record AreToolsCounted (r : List Event) (before after : List ℕ) : Type 0 where
  pub each : (k : ℕ) → k < length before
      → (get_or before k 0 ≤ get_or after k 0)
      × RoseBy (tool_faults k r) (get_or before k 0) (get_or after k 0)

-- a pass with which a worker may begin, by a copy of the plan
module _ {C : Type 0} {g : _} where
  pub record CanWork (lock : RuledLock C Charter Event) (plan : Result Plan Memory)
      (p : Pass C Charter Event g) : Type 0 where
    pub of : IsOf lock p
    pub idle : IsIdle p
    pub worker : worker_of p < 16
    pub none_open : NoneOpenBy (mine_of p)
    pub plan_is : IsPlanOf (charter_of p) plan

  -- the pass p is q after the work, and the tool's count, which was `before`, shows it
  pub record HasWorked (apply : Apply) (lock : RuledLock C Charter Event) (p q : Pass C Charter Event g)
      (before later : ℕ) : Type 0 where
    pub of : IsOf lock q
    pub idle : IsIdle q
    pub same : IsSamePass p q
    pub works : IfSome (charter_of p) (λ c. Works c (worker_of p) (mine_of p) (mine_of q)
        (seen_of q) before later)
    pub inputs : IfSome (charter_of p) (λ c. AddsOfInputs apply (plan_of c) (mine_of p) (mine_of q))
    pub tool : before ≤ later

-- the same of each hand
module _ {C M : Type 0} {g : _} where
  abbrev pub CanAllWork : RuledLock C Charter Event → Result Plan Memory → List (Hand C M Charter Event g) → Type 0
  CanAllWork lock plan hs = (k : ℕ) (d : Hand C M Charter Event g) → k < length hs
      → CanWork lock plan (get_or hs k d).pass

  abbrev pub HaveAllWorked : Apply → RuledLock C Charter Event → (M → ℕ) → List (Hand C M Charter Event g)
      → List (Hand C M Charter Event g) → Type 0
  HaveAllWorked apply lock faults hs after = (k : ℕ) (d : Hand C M Charter Event g) → k < length hs
      → HasWorked apply lock (get_or hs k d).pass (get_or after k d).pass (faults (get_or hs k d).member)
      (faults (get_or after k d).member)

  abbrev pub HaveAllAsked : (M → List ℕ) → List (Hand C M Charter Event g) → List (Hand C M Charter Event g)
      → Type 0
  HaveAllAsked asked hs after = (k : ℕ) (d : Hand C M Charter Event g) → k < length hs
      → AsksOwn (mine_of (get_or hs k d).pass) (mine_of (get_or after k d).pass)
      (asked (get_or hs k d).member) (asked (get_or after k d).member)
