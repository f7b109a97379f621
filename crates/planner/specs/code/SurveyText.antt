-- The text of a check.
use Rattle.std.specs.Prelude.{ℕ, ◌++◌, List, [], codes, length, unwrap_or}
use Rattle.std.specs.Fmt.{decimal}
use Rattle.std.specs.List.{flat_map}
use Rattle.values.specs.Printed.{printed_name}
use Rattle.workflow_core.specs.declared.workflow.Workflow.{Workflow as WorkflowValue}
use Rattle.site_catalog.specs.declared.catalog.SiteEntry.{SiteEntry}
use Rattle.site_catalog.specs.declared.catalog.Directory.{Directory}
use Rattle.site_catalog.specs.declared.catalog.FileServer.{FileServer}
use Rattle.planner.specs.code.Document.{document_word}
use Rattle.planner.specs.declared.document.Document.{Document}
use Rattle.planner.specs.declared.document.Document.TheVariants.{Workflow, Sites, Replicas, Transformations}
use Rattle.planner.specs.declared.inputs.Survey.{Survey}

-- the name, and how many jobs, files and stated pairs there are
unfoldable pub workflow_line : WorkflowValue → List ℕ
workflow_line w = codes "workflow " ++ printed_name w.name ++ codes " " ++ decimal (length w.jobs)
    ++ codes " " ++ decimal (length w.files) ++ codes " " ++ decimal (length w.pairs) ++ codes "\n"

unfoldable pub server_lines : FileServer → List ℕ
server_lines s = codes "server " ++ printed_name s.operation ++ codes " " ++ printed_name s.url ++ codes "\n"

abbrev pub directory_line : Directory → List ℕ
directory_line d = codes "directory " ++ printed_name d.kind ++ codes " "
    ++ printed_name (unwrap_or d.path []) ++ codes "\n"

-- a directory, and each of its file servers
unfoldable pub directory_lines : Directory → List ℕ
directory_lines d = directory_line d ++ flat_map server_lines d.servers

abbrev pub site_line : SiteEntry → List ℕ
site_line s = codes "site " ++ printed_name s.name ++ codes "\n"

-- a site, and each of its directories
unfoldable pub site_lines : SiteEntry → List ℕ
site_lines s = site_line s ++ flat_map directory_lines s.directories

-- how many entries a catalogue lists
unfoldable pub counted_line : Document → ℕ → List ℕ
counted_line which n = document_word which ++ codes " " ++ decimal n ++ codes "\n"

unfoldable pub ignored_line : Document → List ℕ → List ℕ
ignored_line which path = codes "ignored " ++ document_word which ++ codes " " ++ printed_name path
    ++ codes "\n"

-- the paths of a document that aren't acted on
abbrev pub ignored_lines : Document → List (List ℕ) → List ℕ
ignored_lines which paths = flat_map (ignored_line which) paths

-- what the documents have
abbrev pub has_lines : Survey → List ℕ
has_lines s =
    workflow_line s.workflow
    ++ flat_map site_lines s.sites.sites
    ++ counted_line Replicas s.replicas.listed
    ++ counted_line Transformations (length s.transformations.entries)

-- what isn't acted on, document by document
abbrev pub all_ignored_lines : Survey → List ℕ
all_ignored_lines s =
    ignored_lines Workflow s.workflow.ignored
    ++ ignored_lines Sites s.sites.ignored
    ++ ignored_lines Replicas s.replicas.ignored
    ++ ignored_lines Transformations s.transformations.ignored

abbrev pub check_lines : Survey → List ℕ
check_lines s = has_lines s ++ all_ignored_lines s
