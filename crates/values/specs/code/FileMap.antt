-- Beside `specs/FileMap.antt`: what the code's own contracts say.
use Rattle.std.specs.Prelude.{ℕ, List, [], ◌∷◌, string_bytes, String, Vec}
use Rattle.std.specs.FinMap as map
use Rattle.std.specs.declared.alloc.Global.{Global}
use Rattle.values.specs.FileMap.{Files}

-- the map that a list of named bytes is
abbrev pub named : List (String Global × Vec ℕ Global) → List (List ℕ × List ℕ)
named [] = []
named (e ∷ es) = (string_bytes e.0, e.1.items) ∷ named es

abbrev pub files_of : List (String Global × Vec ℕ Global) → Files
files_of es = map.from_entries (named es)
