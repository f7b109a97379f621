-- The paths of the keys that are in no table, which `check` lists.
use Rattle.std.specs.Prelude.{ℕ, List, ◌++◌, codes, [], Result, Ok, Err}
use Rattle.serde_json.specs.Data.{Data}
use Rattle.peg_json.specs.code.Unknown.{unknown_in, unknown_at, unknown_list, unknown_profiles}
use Rattle.peg_json.specs.Tree.{tree_of}
use Rattle.peg_json.specs.declared.fault.TreeFault.{TreeFault}
use Rattle.workflow_reader.specs.Workflow.{use_rows, job_rows, dependency_rows, workflow_document_rows}

-- the paths of a use's keys that are in no table
unfoldable pub unknown_use : List ℕ → Data → List (List ℕ)
unknown_use path d = unknown_in path d use_rows

-- the paths of the keys of a job, and below it, that are in no table
unfoldable pub unknown_job : List ℕ → Data → List (List ℕ)
unknown_job path d =
    unknown_in path d job_rows
    ++ unknown_at (unknown_list unknown_use) path d (codes "uses")
    ++ unknown_at unknown_profiles path d (codes "profiles")

-- the paths of a dependency's keys that are in no table
unfoldable pub unknown_dependency : List ℕ → Data → List (List ℕ)
unknown_dependency path d = unknown_in path d dependency_rows

-- the paths of the keys of a document, and below it, that are in no table; none below a catalogue
unfoldable pub unknown_of : List ℕ → Data → List (List ℕ)
unknown_of path d =
    unknown_in path d workflow_document_rows
    ++ unknown_at (unknown_list unknown_job) path d (codes "jobs")
    ++ unknown_at (unknown_list unknown_dependency) path d (codes "jobDependencies")

-- the paths of the keys of a tree that are in no table, if there is a tree
abbrev pub unknown_if_tree : Result Data TreeFault → List (List ℕ)
unknown_if_tree (Ok d) = unknown_of [] d
unknown_if_tree (Err e) = []

-- the paths of a text's keys that are in no table
unfoldable pub unknown_in_text : List ℕ → List (List ℕ)
unknown_in_text bytes = unknown_if_tree (tree_of bytes)
