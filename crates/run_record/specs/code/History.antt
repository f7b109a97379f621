-- How a record keeps its events: each as a mark, with the place of its sizes in one list of all.
use Rattle.std.specs.Prelude.{◌≡◌, ℕ, ◌+◌, Bool, true, List, map, take, drop, length, leb}
use Rattle.std.specs.List.{list_all}
use Rattle.run_record.specs.declared.entry.Entry.{Entry}
use Rattle.run_record.specs.declared.entry.Entry.TheVariants as entry
use Rattle.run_record.specs.declared.history.Mark.{Mark}
use Rattle.run_record.specs.declared.history.Mark.TheVariants as mark
use Rattle.run_record.specs.Events.{Event, Grant, Arrive, End, Clean, Fail, Again, Regrant}
use Rattle.run_record.specs.code.RecordText.{AreEntries}

abbrev pub event_of : List ℕ → Mark → Event
event_of sizes (mark.Grant w t) = Grant w t.0
event_of sizes (mark.Arrive w t n) = Arrive w t.0 n
event_of sizes (mark.End w t start count) = End w t.0 (take count (drop start sizes))
event_of sizes (mark.Clean w t) = Clean w t.0
event_of sizes (mark.Fail w t c start count) = Fail w t.0 c (take count (drop start sizes))
event_of sizes (mark.Again w t c start count) = Again w t.0 c (take count (drop start sizes))
event_of sizes (mark.Regrant w t) = Regrant w t.0

-- the sizes of a mark stand within the first n
abbrev pub is_within : ℕ → Mark → Bool
is_within n (mark.End w t start count) = leb (start + count) n
is_within n (mark.Fail w t c start count) = leb (start + count) n
is_within n (mark.Again w t c start count) = leb (start + count) n
is_within n _ = true

-- the mark of an entry whose sizes begin at a place
abbrev pub mark_event : ℕ → Entry → Mark
mark_event start (entry.Grant w t) = mark.Grant w t
mark_event start (entry.Arrive w t n) = mark.Arrive w t n
mark_event start (entry.End w t ns) = mark.End w t start (length ns.now)
mark_event start (entry.Clean w t) = mark.Clean w t
mark_event start (entry.Fail w t c ns) = mark.Fail w t c start (length ns.now)
mark_event start (entry.Again w t c ns) = mark.Again w t c start (length ns.now)
mark_event start (entry.Regrant w t) = mark.Regrant w t

-- what holds of each record: the sizes of each mark are there, and each event is one that an entry may be
pub record IsKept (sizes : List ℕ) (marks : List Mark) : Type 0 where
  pub within : list_all (is_within (length sizes)) marks ≡ true
  pub entries : AreEntries (map (event_of sizes) marks)
