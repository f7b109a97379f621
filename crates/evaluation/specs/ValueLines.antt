-- The requested files with their values, and the lines that tell them.
use Rattle.std.specs.Prelude.{◌≡◌, ℕ, ◌++◌, Bool, List, [], ◌∷◌, codes, length, slice_index_or, slice_set, replicate, true, false, if◌then◌else◌, Some}
use Rattle.std.specs.Fmt.{decimal}
use Rattle.std.specs.List.{flat_map}
use Rattle.hex.specs.Hex.{encode_lower}
use Rattle.sha2.specs.Sha256.{sha256}
use Rattle.values.specs.Printed.{printed_name}
use Rattle.workflow_core.specs.declared.workflow.Workflow.{Workflow}
use Rattle.workflow_core.specs.declared.workflow.Job.{Job}
use Rattle.workflow_core.specs.declared.workflow.Output.{Output}
use Rattle.dependency_graph.specs.Value.{Basis, value}

-- a file's name and its bytes
pub record Valued : Type 0 where
  pub name : List ℕ
  pub bytes : List ℕ

-- for each of the files its name and its value
abbrev pub AreValued : Basis → Workflow → List ℕ → List Valued → Type 0
AreValued on w [] [] = Unit {0}
AreValued on w (f ∷ fs) (d ∷ ds) =
    (d.name ≡ slice_index_or w.files f []) × (value on w f ≡ Some d.bytes) × AreValued on w fs ds
AreValued on w _ _ = ⊥

-- a file's line: its name, its length and the SHA-256 of its bytes
abbrev pub value_line : Valued → List ℕ
value_line d =
    codes "value " ++ printed_name d.name ++ codes " " ++ decimal (length d.bytes)
    ++ codes " " ++ encode_lower (sha256 d.bytes) ++ codes "\n"

abbrev pub value_lines : List Valued → List ℕ
value_lines ds = flat_map value_line ds

-- of three lists, the names and bytes at the places that are marked
abbrev pub picked : List Bool → List (List ℕ) → List (List ℕ) → List Valued
picked (true ∷ marks) (name ∷ names) (bytes ∷ values) =
    record { name = name; bytes = bytes } ∷ picked marks names values
picked (false ∷ marks) (name ∷ names) (bytes ∷ values) = picked marks names values
picked _ _ _ = []

-- the marks, with the places of the requested outputs set
abbrev pub marked : List Output → List Bool → List Bool
marked [] marks = marks
marked (o ∷ os) marks = marked os (if o.stage_out then slice_set marks o.file.0 true else marks)

abbrev pub marked_by : List Job → List Bool → List Bool
marked_by [] marks = marks
marked_by (j ∷ js) marks = marked_by js (marked j.outputs marks)

-- the requested files of a workflow, with their bytes of a list by file number
abbrev pub chosen : Workflow → List (List ℕ) → List Valued
chosen w values = picked (marked_by w.jobs (replicate (length w.files) false)) w.files values
