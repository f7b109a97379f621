-- The paths of the keys that are in no table, which `check` lists.
use Rattle.std.specs.Prelude.{ℕ, List, ◌++◌, codes, [], Result, Ok, Err}
use Rattle.serde_json.specs.Data.{Data}
use Rattle.peg_json.specs.code.Unknown.{unknown_in, unknown_at, unknown_list}
use Rattle.peg_json.specs.Tree.{tree_of}
use Rattle.peg_json.specs.declared.fault.TreeFault.{TreeFault}
use Rattle.site_catalog.specs.Catalog.{server_rows, directory_rows, site_entry_rows, site_document_rows}

-- the paths of a file server's keys that are in no table
unfoldable pub unknown_server : List ℕ → Data → List (List ℕ)
unknown_server path d = unknown_in path d server_rows

-- the paths of the keys of a directory, and below it, that are in no table
unfoldable pub unknown_directory : List ℕ → Data → List (List ℕ)
unknown_directory path d =
    unknown_in path d directory_rows
    ++ unknown_at (unknown_list unknown_server) path d (codes "fileServers")

-- the paths of the keys of a site, and below it, that are in no table
unfoldable pub unknown_site : List ℕ → Data → List (List ℕ)
unknown_site path d =
    unknown_in path d site_entry_rows
    ++ unknown_at (unknown_list unknown_directory) path d (codes "directories")

-- the paths of the keys of a document, and below it, that are in no table
unfoldable pub unknown_of : List ℕ → Data → List (List ℕ)
unknown_of path d =
    unknown_in path d site_document_rows
    ++ unknown_at (unknown_list unknown_site) path d (codes "sites")

-- the paths of the keys of a tree that are in no table, if there is a tree
abbrev pub unknown_if_tree : Result Data TreeFault → List (List ℕ)
unknown_if_tree (Ok d) = unknown_of [] d
unknown_if_tree (Err e) = []

-- the paths of a text's keys that are in no table
unfoldable pub unknown_in_text : List ℕ → List (List ℕ)
unknown_in_text bytes = unknown_if_tree (tree_of bytes)
