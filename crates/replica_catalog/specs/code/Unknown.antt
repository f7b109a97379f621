-- The paths of the keys that are in no table, which `check` lists.
use Rattle.std.specs.Prelude.{ℕ, List, ◌++◌, codes, [], Result, Ok, Err}
use Rattle.serde_json.specs.Data.{Data}
use Rattle.peg_json.specs.code.Unknown.{unknown_in, unknown_at, unknown_list}
use Rattle.peg_json.specs.Tree.{tree_of}
use Rattle.peg_json.specs.declared.fault.TreeFault.{TreeFault}
use Rattle.replica_catalog.specs.Catalog.{pfn_rows, checksum_rows, replica_rows, replica_document_rows}

-- the paths of a pfn's keys that are in no table
unfoldable pub unknown_pfn : List ℕ → Data → List (List ℕ)
unknown_pfn path d = unknown_in path d pfn_rows

-- the paths of a checksum's keys that are in no table
unfoldable pub unknown_checksum : List ℕ → Data → List (List ℕ)
unknown_checksum path d = unknown_in path d checksum_rows

-- the paths of the keys of an entry, and below it, that are in no table
unfoldable pub unknown_replica : List ℕ → Data → List (List ℕ)
unknown_replica path d =
    unknown_in path d replica_rows
    ++ unknown_at (unknown_list unknown_pfn) path d (codes "pfns")
    ++ unknown_at unknown_checksum path d (codes "checksum")

-- the paths of the keys of a document, and below it, that are in no table
unfoldable pub unknown_of : List ℕ → Data → List (List ℕ)
unknown_of path d =
    unknown_in path d replica_document_rows
    ++ unknown_at (unknown_list unknown_replica) path d (codes "replicas")

-- the paths of the keys of a tree that are in no table, if there is a tree
abbrev pub unknown_if_tree : Result Data TreeFault → List (List ℕ)
unknown_if_tree (Ok d) = unknown_of [] d
unknown_if_tree (Err e) = []

-- the paths of a text's keys that are in no table
unfoldable pub unknown_in_text : List ℕ → List (List ℕ)
unknown_in_text bytes = unknown_if_tree (tree_of bytes)
