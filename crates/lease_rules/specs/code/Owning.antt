-- Beside `specs/Owning.antt`: what the code's own contracts say.
use Rattle.std.specs.Prelude.{ℕ, ◌==◌, ◌&&◌, ◌||◌, Bool, not, List, [], ◌∷◌, filter}
use Rattle.run_record.specs.Events.{Event, Grant, Arrive, End, Clean, Fail, Again, Regrant}
use Rattle.lease_rules.specs.State.{State}
use Rattle.lease_rules.specs.code.State.{runs}
use Rattle.lease_rules.specs.Owning.{worker}

-- the entries of a worker
abbrev pub entries_by : ℕ → List Event → List Event
entries_by w r = filter (λ e. worker e == w) r

-- whether the task is open for the worker (`IsOpen` as a test)
abbrev pub is_open : State → ℕ → ℕ → Bool
is_open s w t = runs (s.phase t) && ((s.holder t == w) && not (s.failed t))

-- whether the task is open after an entry of the worker that it is open for: its grant opens it, and every other entry of
-- it ends that
abbrev pub open_after : ℕ → Bool → Event → Bool
open_after t b (Grant w u) = (u == t) || b
open_after t b (Regrant w u) = (u == t) || b
open_after t b (Arrive w u n) = not (u == t) && b
open_after t b (End w u ns) = not (u == t) && b
open_after t b (Clean w u) = not (u == t) && b
open_after t b (Fail w u cause ns) = not (u == t) && b
open_after t b (Again w u cause ns) = not (u == t) && b

-- the same after more of the worker's entries
abbrev pub is_open_after : ℕ → Bool → List Event → Bool
is_open_after t b [] = b
is_open_after t b (e ∷ r) = is_open_after t (open_after t b e) r
