-- What a transformation catalogue says: what its tree is, and what the whole document reads as, or its first fault.
use Rattle.std.specs.Prelude.{ℕ, List, [], ◌∷◌, codes, Bool, true, false, if◌then◌else◌, Result, Ok, Err, ◌&&◌, map, Option}
use Rattle.std.specs.Str.{bytes_eq}
use Rattle.std.specs.Option.{option_eq}
use Rattle.serde_json.specs.Data.{Data}
use Rattle.peg_json.specs.Path.{key_path}
use Rattle.peg_json.specs.Tree.{◌>>=◌, list_in, then_read, tree_of}
use Rattle.peg_json.specs.Table.{Row, needs, may_have, checks}
use Rattle.peg_json.specs.Typed.{required, text_of, name_of, optional, list_or_none}
use Rattle.peg_json.specs.Refused.{value_refused, elements_refused}
use Rattle.peg_json.specs.declared.row.Kind.TheVariants as kinds
use Rattle.peg_json.specs.declared.fault.TreeFault.{TreeFault}
use Rattle.peg_json.specs.declared.fault.TreeFault.TheVariants as faults
use Rattle.peg_json.specs.Profiles.{profiles_or_none}
use Rattle.peg_json.specs.Versions.{optional_version_at}
use Rattle.peg_json.specs.Elements.{first_repeat, refused}
use Rattle.peg_json.specs.declared.read_fault.ReadFault.{ReadFault}
use Rattle.peg_json.specs.declared.read_fault.ReadFault.TheVariants.{DuplicateTransformation}
use Rattle.workflow_core.specs.declared.workflow.Transformation.{Transformation}
use Rattle.transformation_catalog.specs.declared.catalog.TransformationSite.{TransformationSite}
use Rattle.transformation_catalog.specs.declared.catalog.TransformationEntry.{TransformationEntry}
use Rattle.transformation_catalog.specs.declared.catalog.TransformationCatalog.{TransformationCatalog}

abbrev pub transformation_site_rows : List Row
transformation_site_rows =
    needs (codes "name") kinds.Name
    ∷ needs (codes "pfn") kinds.Text
    ∷ needs (codes "type") kinds.Text
    ∷ may_have (codes "container") kinds.Any
    ∷ []

-- whether the text at a key names what is installed or what is stageable
abbrev pub installed_at : List ℕ → Data → List ℕ → Result Bool TreeFault
installed_at path d key = required text_of path d key >>= λ s.
    if bytes_eq s (codes "installed") then Ok true
    else (if bytes_eq s (codes "stageable") then Ok false else Err (faults.Unsupported (key_path path key) s))

-- a site; what stands at `pfn` is checked and not kept
unfoldable pub transformation_site_of : List ℕ → Data → Result TransformationSite TreeFault
transformation_site_of path d = do
  u ← checks path d transformation_site_rows
  name ← required name_of path d (codes "name")
  installed ← installed_at path d (codes "type")
  c ← value_refused path d (codes "container")
  Ok (record { name = name; installed = installed })

abbrev pub transformation_rows : List Row
transformation_rows =
    needs (codes "name") kinds.Name
    ∷ may_have (codes "namespace") kinds.Text
    ∷ may_have (codes "version") kinds.Text
    ∷ may_have (codes "sites") kinds.List
    ∷ may_have (codes "requires") kinds.List
    ∷ may_have (codes "profiles") kinds.Object
    ∷ []

-- a transformation; its profiles are checked as a job's, and two of them are kept
unfoldable pub transformation_of : List ℕ → Data → Result TransformationEntry TreeFault
transformation_of path d = do
  u ← checks path d transformation_rows
  name ← required name_of path d (codes "name")
  namespace ← optional text_of path d (codes "namespace")
  version ← optional text_of path d (codes "version")
  sites ← list_or_none transformation_site_of path d (codes "sites")
  r ← elements_refused path d (codes "requires")
  profiles ← profiles_or_none path d (codes "profiles")
  Ok (record {
    transformation = record { namespace = namespace; name = name; version = version };
    sites = sites;
    cluster_size = profiles.pegasus.cluster_size;
    cluster_num = profiles.pegasus.cluster_num;
  })

abbrev pub transformation_document_rows : List Row
transformation_document_rows =
    may_have (codes "pegasus") kinds.Text
    ∷ needs (codes "transformations") kinds.List
    ∷ may_have (codes "containers") kinds.List
    ∷ []

-- a whole document: its transformations
unfoldable pub transformation_document_of : List ℕ → Data → Result (List TransformationEntry) TreeFault
transformation_document_of path d = do
  u ← checks path d transformation_document_rows
  v ← optional_version_at path d (codes "pegasus")
  entries ← required (list_in transformation_of) path d (codes "transformations")
  c ← elements_refused path d (codes "containers")
  Ok entries

-- namespace, name and version are equal; an absent and an empty one are different
abbrev pub same_transformation : Transformation → Transformation → Bool
same_transformation s t = option_eq bytes_eq s.namespace t.namespace
    && (bytes_eq s.name t.name && option_eq bytes_eq s.version t.version)

abbrev pub transformations_of : List TransformationEntry → List Transformation
transformations_of es = map (λ (e : TransformationEntry). e.transformation) es

-- the first transformation that is the same as one before it
abbrev pub repeat_in : List TransformationEntry → Option Transformation
repeat_in es = first_repeat same_transformation [] (transformations_of es)

-- no transformation comes twice
abbrev pub listed_once : List TransformationEntry → Result (Unit {0}) ReadFault
listed_once es = refused (λ (t : Transformation). DuplicateTransformation t.name) (repeat_in es)

-- the catalogue of these entries, or the fault that is in none of them alone
unfoldable pub distinct_transformations : List TransformationEntry → Result (List TransformationEntry) ReadFault
distinct_transformations es = listed_once es >>= λ _. Ok es

-- what a catalogue says, but for the keys that aren't acted on
abbrev pub transformation_view : TransformationCatalog → List TransformationEntry
transformation_view c = c.entries

-- a tree under a path
unfoldable pub transformation_catalog_from_tree : List ℕ → Data → Result (List TransformationEntry) ReadFault
transformation_catalog_from_tree path d = then_read (transformation_document_of path d) distinct_transformations

-- a JSON text
unfoldable pub transformation_catalog_from_text : List ℕ → Result (List TransformationEntry) ReadFault
transformation_catalog_from_text bytes = then_read (tree_of bytes) (transformation_catalog_from_tree [])
