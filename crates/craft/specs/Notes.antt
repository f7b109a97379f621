-- The tasks that were noted, in order.
use Rattle.std.specs.Prelude.{ℕ, List, [], ◌∷◌, ◌++◌}
use Rattle.craft.specs.declared.note.Note.{Note}
use Rattle.craft.specs.declared.note.Note.TheVariants.{First, After'}
use Rattle.craft.specs.declared.notes.Notes.{Notes}

abbrev pub noted_by : Note → List ℕ
noted_by First = []
noted_by (After' marker earlier task) = noted_by earlier ++ task.0 ∷ []

abbrev pub noted : Notes → List ℕ
noted n = noted_by n.last.value
