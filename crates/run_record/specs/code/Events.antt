-- Beside `specs/Events.antt`: what the code's own contracts say.
use Rattle.std.specs.Prelude.{ℕ, ◌&&◌, ◌||◌, Bool, true, false, List, []}
use Rattle.run_record.specs.declared.entry.Cause.{Cause}
use Rattle.run_record.specs.declared.entry.Cause.TheVariants.{HostFailed, Memory}
use Rattle.run_record.specs.declared.entry.Entry.{Entry}
use Rattle.run_record.specs.declared.entry.Entry.TheVariants as entry
use Rattle.run_record.specs.Events.{Event, may_retry, Grant, Arrive, End, Clean, Fail, Again, Regrant}

-- the events of a record, and for how many more entries and sizes it has room
pub record Log : Type 0 where
  pub events : List Event
  pub room : ℕ
  pub sizes_room : ℕ

abbrev pub event : Entry → Event
event (entry.Grant w t) = Grant w t.0
event (entry.Arrive w t n) = Arrive w t.0 n
event (entry.End w t ns) = End w t.0 ns.now
event (entry.Clean w t) = Clean w t.0
event (entry.Fail w t c ns) = Fail w t.0 c ns.now
event (entry.Again w t c ns) = Again w t.0 c ns.now
event (entry.Regrant w t) = Regrant w t.0

-- the sizes that an entry lists
abbrev pub sizes_in : Entry → List ℕ
sizes_in (entry.End w t ns) = ns.now
sizes_in (entry.Fail w t c ns) = ns.now
sizes_in (entry.Again w t c ns) = ns.now
sizes_in _ = []

-- the causes with which sizes of published outputs may stand
abbrev pub may_publish : Cause → Bool
may_publish HostFailed = true
may_publish Memory = true
may_publish _ = false

abbrev pub is_empty : List ℕ → Bool
is_empty [] = true
is_empty _ = false

-- an entry has published sizes only with a cause that publishes, and a retry has a cause for one
abbrev pub is_proper : Event → Bool
is_proper (Fail w t c ns) = may_publish c || is_empty ns
is_proper (Again w t c ns) = may_retry c && (may_publish c || is_empty ns)
is_proper _ = true
