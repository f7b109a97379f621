-- The paths of the keys that are in no table, which `check` lists.
use Rattle.std.specs.Prelude.{ℕ, List, [], ◌∷◌, if◌then◌else◌, Option, Some, None, ◌+◌, ◌++◌, codes}
use Rattle.serde_json.specs.Data.{Data, Members, Items}
use Rattle.serde_json.specs.Find as find
use Rattle.peg_json.specs.Path.{key_path, index_path}
use Rattle.peg_json.specs.Table.{Row, is_key, keys_in, member_of}
use Rattle.peg_json.specs.Tree.{elements}
use Rattle.peg_json.specs.Profiles.{pegasus_rows, selector_rows, profiles_rows}

-- the paths of those among the keys that no row has
abbrev pub unknown_paths : List ℕ → List Row → List (List ℕ) → List (List ℕ)
unknown_paths path rows [] = []
unknown_paths path rows (k ∷ ks) = if is_key rows k then unknown_paths path rows ks
    else key_path path k ∷ unknown_paths path rows ks

-- those of the members, if there are members
abbrev pub unknown_among : List ℕ → Option Members → List Row → List (List ℕ)
unknown_among path None rows = []
unknown_among path (Some ms) rows = unknown_paths path rows (keys_in ms)

-- the paths of an object's keys that no row has
abbrev pub unknown_in : List ℕ → Data → List Row → List (List ℕ)
unknown_in path d rows = unknown_among path (find.as_object d) rows

-- those of each element in turn, under its own path
abbrev pub unknown_from : (List ℕ → Data → List (List ℕ)) → List ℕ → ℕ → List Data → List (List ℕ)
unknown_from f path i [] = []
unknown_from f path i (d ∷ ds) = f (index_path path i) d ++ unknown_from f path (i + 1) ds

-- those of a list's elements, if it is a list
abbrev pub unknown_elements : (List ℕ → Data → List (List ℕ)) → List ℕ → Option Items → List (List ℕ)
unknown_elements f path None = []
unknown_elements f path (Some ds) = unknown_from f path 0 (elements ds)

-- those of the elements of a value
abbrev pub unknown_list : (List ℕ → Data → List (List ℕ)) → List ℕ → Data → List (List ℕ)
unknown_list f path d = unknown_elements f path (find.as_array d)

-- those of a value, if it is there
abbrev pub unknown_if_there : (Data → List (List ℕ)) → Option Data → List (List ℕ)
unknown_if_there f None = []
unknown_if_there f (Some e) = f e

-- those of the member at a key
abbrev pub unknown_at : (List ℕ → Data → List (List ℕ)) → List ℕ → Data → List ℕ → List (List ℕ)
unknown_at f path d key = unknown_if_there (f (key_path path key)) (member_of d key)

-- the paths of their keys that are in no table
unfoldable pub unknown_pegasus : List ℕ → Data → List (List ℕ)
unknown_pegasus path d = unknown_in path d pegasus_rows

-- the paths of their keys that are in no table
unfoldable pub unknown_selector : List ℕ → Data → List (List ℕ)
unknown_selector path d = unknown_in path d selector_rows

-- the paths of the keys below them that are in no table
unfoldable pub unknown_profiles : List ℕ → Data → List (List ℕ)
unknown_profiles path d =
    unknown_in path d profiles_rows
    ++ unknown_at unknown_pegasus path d (codes "pegasus")
    ++ unknown_at unknown_selector path d (codes "selector")
