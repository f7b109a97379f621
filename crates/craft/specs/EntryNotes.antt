-- The entries that were noted, in order.
use Rattle.std.specs.Prelude.{ℕ, List, [], ◌++◌}
use Rattle.craft.specs.Placed.{last_placed}
use Rattle.craft.specs.declared.entry_note.EntryNote.{EntryNote}
use Rattle.craft.specs.declared.entry_note.EntryNote.TheVariants.{First, After'}
use Rattle.craft.specs.declared.entry_notes.EntryNotes.{EntryNotes}
use Rattle.run_record.specs.Events.{Event}

abbrev pub entries_noted_by : EntryNote → List (ℕ × Event)
entries_noted_by First = []
entries_noted_by (After' marker earlier shown) = entries_noted_by earlier ++ last_placed shown.value.events

abbrev pub entries_noted : EntryNotes → List (ℕ × Event)
entries_noted n = entries_noted_by n.last.value
