-- How often a worker's tool is run at most, as a record's entries say.
use Rattle.std.specs.Prelude.{ℕ, ◌+◌, ◌≤◌, ◌<◌, ◌==◌, cond, List, [], ◌∷◌, length, get_or, Option, IfSome, Result, Ok, Err}
use Rattle.values.specs.declared.memory.Memory.{Memory}
use Rattle.plan_core.specs.declared.plan.Plan.{Plan}
use Rattle.plan_core.specs.Words.{kind}
use Rattle.run_record.specs.Events.{Event, Arrive, End, Clean, Fail, Again}
use Rattle.ruled_lock.specs.Pass.{charter_of, mine_of, worker_of}
use Rattle.site_yard.specs.declared.chronicle.Charter.{Charter}
use Rattle.task_work.specs.Computing.{jobs_in}
use Rattle.worker_gate.specs.code.Turning.{plan_of}
use Rattle.worker_gate.specs.declared.hands.Hand.{Hand}

-- how many jobs a task has: a Run some, any other none
abbrev pub job_count : Plan → ℕ → ℕ
job_count p t = length (jobs_in (kind p t))

-- once for each job of the task, where the entry is the worker's and ends an attempt
abbrev pub tool_runs_of : Plan → ℕ → Event → ℕ
tool_runs_of p w (Arrive v t n) = cond (w == v) (job_count p t) 0
tool_runs_of p w (End v t ns) = cond (w == v) (job_count p t) 0
tool_runs_of p w (Clean v t) = cond (w == v) (job_count p t) 0
tool_runs_of p w (Fail v t cause ns) = cond (w == v) (job_count p t) 0
tool_runs_of p w (Again v t cause ns) = cond (w == v) (job_count p t) 0
tool_runs_of p w _ = 0

unfoldable pub tool_runs : Plan → ℕ → List Event → ℕ
tool_runs p w [] = 0
tool_runs p w (e ∷ r) = tool_runs_of p w e + tool_runs p w r

-- Between a record r and the one after it the tool was run no more often than the entries say that were added.
abbrev pub RunsWithin : Plan → ℕ → List Event → List Event → ℕ → ℕ → Type 0
RunsWithin p w r after before later = later + tool_runs p w r ≤ before + tool_runs p w after

-- the same by a worker's own entries, where the charter is known
abbrev pub OwnRunsWithin : Option Charter → ℕ → List Event → List Event → ℕ → ℕ → Type 0
OwnRunsWithin g w mine after before later = IfSome g (λ c. RunsWithin (plan_of c) w mine after before later)

-- Of a task, by a copy of the plan: once for each of its jobs at most. Without one it wasn't run.
abbrev pub RunsTask : Result Plan Memory → ℕ → ℕ → ℕ → Type 0
RunsTask (Ok p) t before later = later ≤ before + job_count p t
RunsTask (Err refused) t before later = later ≤ before

-- Member by member: no more often than the entries of worker k say of a whole record.
pub record AreToolsRun (p : Plan) (r : List Event) (before after : List ℕ) : Type 0 where
  pub each : (k : ℕ) → k < length before → get_or after k 0 ≤ get_or before k 0 + tool_runs p k r

-- each hand's tool was run no more often than its worker's new entries say
module _ {C M : Type 0} {g : _} where
  abbrev pub HaveAllRun : (M → ℕ) → List (Hand C M Charter Event g) → List (Hand C M Charter Event g) → Type 0
  HaveAllRun runs hs after = (k : ℕ) (d : Hand C M Charter Event g) → k < length hs
      → OwnRunsWithin (charter_of (get_or hs k d).pass) (worker_of (get_or hs k d).pass)
      (mine_of (get_or hs k d).pass) (mine_of (get_or after k d).pass) (runs (get_or hs k d).member)
      (runs (get_or after k d).member)
