-- What is known after some of a list.
use Rattle.std.specs.Prelude.{ℕ, List, [], ◌∷◌, Bool, if◌then◌else◌, Option, Some, None, slice_set, slice_index_or}
use Rattle.std.specs.List.{list_any}
use Rattle.std.specs.Option.{option_or}
use Rattle.std.specs.Str.{bytes_eq}
use Rattle.workflow_core.specs.Names.{number}
use Rattle.workflow_core.specs.code.Names.{with_name}
use Rattle.workflow_reader.specs.declared.document.Direction.TheVariants as directions
use Rattle.workflow_reader.specs.declared.document.Use.{Use}
use Rattle.workflow_reader.specs.Linking.{same_direction}

abbrev pub is_input : Use → Bool
is_input u = same_direction directions.Input u.direction

-- a use of a file that is there already, by the names of the inputs and of the outputs
abbrev pub is_named : List (List ℕ) → List (List ℕ) → Use → Bool
is_named inputs outputs u = list_any (bytes_eq u.lfn) (if is_input u then inputs else outputs)

-- these names with those of one more use
abbrev pub inputs_with : List (List ℕ) → Use → List (List ℕ)
inputs_with inputs u = if is_input u then with_name inputs u.lfn else inputs

abbrev pub outputs_with : List (List ℕ) → Use → List (List ℕ)
outputs_with outputs u = if is_input u then outputs else with_name outputs u.lfn

-- the first use of a file that is there already
abbrev pub repeat_after : List (List ℕ) → List (List ℕ) → List Use → Option Use
repeat_after inputs outputs [] = None
repeat_after inputs outputs (u ∷ us) = if is_named inputs outputs u then Some u
    else repeat_after (inputs_with inputs u) (outputs_with outputs u) us

-- the sizes of files with that of one more use
abbrev pub with_size : List (List ℕ) → List (Option ℕ) → Use → List (Option ℕ)
with_size files sizes u = slice_set sizes (number files u.lfn)
    (option_or (slice_index_or sizes (number files u.lfn) None) u.size)

abbrev pub with_sizes : List (List ℕ) → List (Option ℕ) → List Use → List (Option ℕ)
with_sizes files sizes [] = sizes
with_sizes files sizes (u ∷ us) = with_sizes files (with_size files sizes u) us
