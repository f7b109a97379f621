-- What a site catalogue says: what its tree is, and what the whole document reads as, or its first fault.
use Rattle.std.specs.Prelude.{ℕ, List, [], ◌∷◌, codes, Result, Ok, map}
use Rattle.serde_json.specs.Data.{Data}
use Rattle.peg_json.specs.Tree.{◌>>=◌, list_in, then_read, tree_of}
use Rattle.peg_json.specs.Table.{Row, needs, checks, may_have}
use Rattle.peg_json.specs.Typed.{required, text_of, optional, list_or_none, name_of}
use Rattle.peg_json.specs.declared.row.Kind.TheVariants as kinds
use Rattle.peg_json.specs.declared.fault.TreeFault.{TreeFault}
use Rattle.peg_json.specs.Versions.{optional_version_at}
use Rattle.peg_json.specs.Elements.{sites_checked}
use Rattle.peg_json.specs.declared.read_fault.ReadFault.{ReadFault}
use Rattle.site_catalog.specs.declared.catalog.FileServer.{FileServer}
use Rattle.site_catalog.specs.declared.catalog.Directory.{Directory}
use Rattle.site_catalog.specs.declared.catalog.SiteEntry.{SiteEntry}
use Rattle.site_catalog.specs.declared.catalog.SiteCatalog.{SiteCatalog}

abbrev pub server_rows : List Row
server_rows = needs (codes "operation") kinds.Text ∷ needs (codes "url") kinds.Text ∷ []

unfoldable pub server_of : List ℕ → Data → Result FileServer TreeFault
server_of path d = do
  u ← checks path d server_rows
  operation ← required text_of path d (codes "operation")
  url ← required text_of path d (codes "url")
  Ok (record { operation = operation; url = url })

abbrev pub directory_rows : List Row
directory_rows =
    needs (codes "type") kinds.Text
    ∷ may_have (codes "path") kinds.Text
    ∷ may_have (codes "fileServers") kinds.List
    ∷ []

-- a directory; absent file servers are none
unfoldable pub directory_of : List ℕ → Data → Result Directory TreeFault
directory_of path d = do
  u ← checks path d directory_rows
  kind ← required text_of path d (codes "type")
  place ← optional text_of path d (codes "path")
  servers ← list_or_none server_of path d (codes "fileServers")
  Ok (record { kind = kind; path = place; servers = servers })

abbrev pub site_entry_rows : List Row
site_entry_rows = needs (codes "name") kinds.Name ∷ may_have (codes "directories") kinds.List ∷ []

-- a site; absent directories are none
unfoldable pub site_entry_of : List ℕ → Data → Result SiteEntry TreeFault
site_entry_of path d = do
  u ← checks path d site_entry_rows
  name ← required name_of path d (codes "name")
  directories ← list_or_none directory_of path d (codes "directories")
  Ok (record { name = name; directories = directories })

abbrev pub site_document_rows : List Row
site_document_rows = may_have (codes "pegasus") kinds.Text ∷ needs (codes "sites") kinds.List ∷ []

-- the sites of a whole document
unfoldable pub site_document_of : List ℕ → Data → Result (List SiteEntry) TreeFault
site_document_of path d = do
  u ← checks path d site_document_rows
  v ← optional_version_at path d (codes "pegasus")
  sites ← required (list_in site_entry_of) path d (codes "sites")
  Ok sites

-- what a catalogue says
abbrev pub site_view : SiteCatalog → List SiteEntry
site_view c = c.sites

abbrev pub names_of : List SiteEntry → List (List ℕ)
names_of sites = map (λ (s : SiteEntry). s.name) sites

-- the sites, if they are few and none is there twice
abbrev pub few_distinct : List SiteEntry → Result (List SiteEntry) ReadFault
few_distinct sites = sites_checked (names_of sites) >>= λ _. Ok sites

-- a tree under a path
unfoldable pub site_catalog_from_tree : List ℕ → Data → Result (List SiteEntry) ReadFault
site_catalog_from_tree path d = then_read (site_document_of path d) few_distinct

-- a JSON text
unfoldable pub site_catalog_from_text : List ℕ → Result (List SiteEntry) ReadFault
site_catalog_from_text bytes = then_read (tree_of bytes) (site_catalog_from_tree [])
