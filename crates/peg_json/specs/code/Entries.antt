-- Beside `specs/Entries.antt`: what the code's own contracts say.
use Rattle.std.specs.Prelude.{ℕ, List, map, string_bytes, String}
use Rattle.std.specs.declared.alloc.Global.{Global}
use Rattle.serde_json.specs.Data.{Data}
use Rattle.serde_json.specs.View.{view as tree_view}
use Rattle.serde_json.specs.declared.value.Value.{Value}

-- a map's entries, as the members of its tree
abbrev pub seen_members : List (String Global × Value) → List (List ℕ × Data)
seen_members ms = map (λ m. (string_bytes m.0, tree_view m.1)) ms
