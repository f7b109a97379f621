-- Beside `specs/Table.antt`: what the code's own contracts say.
use Rattle.std.specs.Prelude.{ℕ, List, [], ◌∷◌, ◌&&◌, Bool, true, not, map, Result, Ok}
use Rattle.std.specs.List.{list_any}
use Rattle.std.specs.Str.{bytes_eq}
use Rattle.serde_json.specs.Data.{Data}
use Rattle.peg_json.specs.declared.row.KeyRow.{KeyRow}
use Rattle.peg_json.specs.declared.fault.TreeFault.{TreeFault}
use Rattle.peg_json.specs.Table.{Row, row_member}
use Rattle.peg_json.specs.Tree.{◌>>=◌}

-- a row, without where its key lies
abbrev pub row_of : KeyRow → Row
row_of r = record { key = r.key.now; kind = r.kind; required = r.required }

-- the rows of a table, without where their keys lie
abbrev pub rows_of : List KeyRow → List Row
rows_of rs = map row_of rs

-- no key stands twice
abbrev pub are_distinct : List Row → Bool
are_distinct [] = true
are_distinct (r ∷ rs) = not (list_any (λ s. bytes_eq r.key s.key) rs) && are_distinct rs

-- a row of an object as it says
abbrev pub row_checked : List ℕ → Data → Row → Result (Unit {0}) TreeFault
row_checked path d r = row_member path d r >>= λ found. Ok tt

-- each row as it says, up to the first fault
abbrev pub rows_checked : List ℕ → Data → List Row → Result (Unit {0}) TreeFault
rows_checked path d [] = Ok tt
rows_checked path d (r ∷ rs) = row_checked path d r >>= λ u. rows_checked path d rs
