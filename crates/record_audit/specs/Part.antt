-- The part of a document that is read as a record.
use Rattle.std.specs.Prelude.{ℕ, List, [], ◌∷◌, if◌then◌else◌}
use Rattle.std.specs.List.{concat}
use Rattle.std.specs.Str.{bytes_eq}
use Rattle.run_record.specs.code.Lines.{lines}
use Rattle.run_record.specs.RecordText.{closed_line}

-- the lines up to the first line `closed`, with that one; all, where there is none
abbrev pub up_to_closed : List (List ℕ) → List (List ℕ)
up_to_closed [] = []
up_to_closed (l ∷ ls) = if bytes_eq l closed_line then l ∷ [] else l ∷ up_to_closed ls

-- what follows the line `closed`, as the deliveries that a run tells, is no part of the record
abbrev pub record_part : List ℕ → List ℕ
record_part bytes = concat (up_to_closed (lines bytes))
