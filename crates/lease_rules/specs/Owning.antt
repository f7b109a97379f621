-- What a worker's own entries say of the tasks that are open for it.
use Rattle.std.specs.Prelude.{ℕ}
use Rattle.run_record.specs.Events.{Event, Grant, Arrive, End, Clean, Fail, Again, Regrant}

-- the worker of an entry
abbrev pub worker : Event → ℕ
worker (Grant w t) = w
worker (Regrant w t) = w
worker (Arrive w t n) = w
worker (End w t ns) = w
worker (Clean w t) = w
worker (Fail w t cause ns) = w
worker (Again w t cause ns) = w
