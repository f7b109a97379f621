-- The tasks that were open when a run stopped.
use Rattle.std.specs.Prelude.{◌≡◌, ◌&&◌, ℕ, zero, suc, ◌<◌, cond, not, List, [], ◌∷◌, ◌++◌, Option, Some, None}
use Rattle.storage_simulation.specs.declared.standing.Phase.TheVariants.{Runs}
use Rattle.lease_rules.specs.State.{State}
use Rattle.lease_rules.specs.code.State.{runs}
use Rattle.resume_run.specs.declared.lost.Lost.{Lost}

-- the worker for whom a task is open: it runs and has no Fail, and its last grant names this worker
abbrev pub owner : State → ℕ → Option ℕ
owner s t = cond (runs (s.phase t) && not (s.failed t)) (Some (s.holder t)) None

abbrev pub lost_of : ℕ → Option ℕ → List Lost
lost_of t None = []
lost_of t (Some w) = record { worker = w; task = record { 0 = t } } ∷ []

-- the open tasks among those with numbers below n, by number
unfoldable pub lost_below : State → ℕ → List Lost
lost_below s zero = []
lost_below s (suc n) = lost_below s n ++ lost_of n (owner s n)

-- what runs was granted to one of the sixteen workers
abbrev pub HaveFewWorkers : State → Type 0
HaveFewWorkers s = (t : ℕ) → s.phase t ≡ Runs → s.holder t < 16
