-- What the tree of a workflow's document is.
use Rattle.std.specs.Prelude.{ℕ, List, Option, if◌then◌else◌, Result, Ok, Err, ℤ, pos, negsuc, suc, ◌∷◌, codes, decimal, option_map, unwrap_or, ◌^◌, [], true}
use Rattle.std.specs.Str.{bytes_eq}
use Rattle.serde_json.specs.Data.{Data}
use Rattle.serde_json.specs.Find as find
use Rattle.peg_json.specs.Path.{key_path}
use Rattle.peg_json.specs.Tree.{◌>>=◌, some_or, list_in}
use Rattle.peg_json.specs.Typed.{required, text_of, optional, name_of, number_of, flag_of, list_or_none, any_of}
use Rattle.peg_json.specs.declared.fault.TreeFault.{TreeFault}
use Rattle.peg_json.specs.declared.fault.TreeFault.TheVariants as faults
use Rattle.peg_json.specs.Table.{Row, needs, may_have, checks}
use Rattle.peg_json.specs.declared.row.Kind.TheVariants as kinds
use Rattle.peg_json.specs.Profiles.{profiles_or_none}
use Rattle.peg_json.specs.Versions.{version_at}
use Rattle.workflow_reader.specs.declared.document.JobEntry.{JobEntry}
use Rattle.workflow_reader.specs.declared.document.Dependency.{Dependency}
use Rattle.workflow_reader.specs.declared.document.Direction.{Direction}
use Rattle.workflow_reader.specs.declared.document.Direction.TheVariants.{Input, Output}
use Rattle.workflow_reader.specs.declared.document.Use.{Use}

-- a workflow's document once its keys are known
pub record DocumentEntry : Type 0 where
  pub name : List ℕ
  pub jobs : List JobEntry
  pub dependencies : List Dependency
  pub sites : Option Data
  pub replicas : Option Data
  pub transformations : Option Data

-- the check of the text at a key
abbrev pub constant_at : List ℕ → List ℕ → Data → List ℕ → Result (Unit {0}) TreeFault
constant_at constant path d key = required text_of path d key >>= λ s.
    if bytes_eq s constant then Ok tt else Err (faults.Unsupported (key_path path key) s)

-- a whole number as its decimal text
abbrev pub whole_text : ℤ → List ℕ
whole_text (pos n) = decimal n
whole_text (negsuc n) = 45 ∷ decimal (suc n)

-- an argument: a text, or a whole number as its decimal text
unfoldable pub argument_of : List ℕ → Data → Result (List ℕ) TreeFault
argument_of path d = unwrap_or (option_map Ok (find.as_str d))
    (some_or (faults.WrongKind path) (find.as_number d) >>= λ n.
    some_or (faults.Unsupported path (codes "number")) (option_map whole_text (find.as_integer n)))

abbrev pub use_rows : List Row
use_rows =
    needs (codes "lfn") kinds.Name
    ∷ needs (codes "type") kinds.Text
    ∷ may_have (codes "stageOut") kinds.Flag
    ∷ may_have (codes "registerReplica") kinds.Flag
    ∷ may_have (codes "size") kinds.Number
    ∷ []

-- the direction at a key
abbrev pub direction_at : List ℕ → Data → List ℕ → Result Direction TreeFault
direction_at path d key = required text_of path d key >>= λ s.
    if bytes_eq s (codes "input") then Ok Input
    else (if bytes_eq s (codes "output") then Ok Output else Err (faults.Unsupported (key_path path key) s))

-- a use; both flags are true where they are absent
unfoldable pub use_of : List ℕ → Data → Result Use TreeFault
use_of path d = do
  u ← checks path d use_rows
  lfn ← required name_of path d (codes "lfn")
  direction ← direction_at path d (codes "type")
  stage_out ← optional flag_of path d (codes "stageOut")
  register ← optional flag_of path d (codes "registerReplica")
  size ← optional (number_of (2 ^ 40)) path d (codes "size")
  Ok (record {
    lfn = lfn;
    direction = direction;
    stage_out = unwrap_or stage_out true;
    register = unwrap_or register true;
    size = size;
  })

abbrev pub job_rows : List Row
job_rows =
    needs (codes "type") kinds.Text
    ∷ needs (codes "id") kinds.Name
    ∷ needs (codes "name") kinds.Name
    ∷ may_have (codes "namespace") kinds.Text
    ∷ may_have (codes "version") kinds.Text
    ∷ may_have (codes "arguments") kinds.List
    ∷ may_have (codes "uses") kinds.List
    ∷ may_have (codes "profiles") kinds.Object
    ∷ []

-- a job
unfoldable pub job_of : List ℕ → Data → Result JobEntry TreeFault
job_of path d = do
  u ← checks path d job_rows
  t ← constant_at (codes "job") path d (codes "type")
  id ← required name_of path d (codes "id")
  name ← required name_of path d (codes "name")
  namespace ← optional text_of path d (codes "namespace")
  version ← optional text_of path d (codes "version")
  arguments ← list_or_none argument_of path d (codes "arguments")
  uses ← list_or_none use_of path d (codes "uses")
  profiles ← profiles_or_none path d (codes "profiles")
  Ok (record {
    id = id;
    transformation = record { namespace = namespace; name = name; version = version };
    arguments = arguments;
    uses = uses;
    label = profiles.pegasus.label;
    cluster_size = profiles.pegasus.cluster_size;
    cluster_num = profiles.pegasus.cluster_num;
    pinned = profiles.selector.site;
  })

abbrev pub dependency_rows : List Row
dependency_rows = needs (codes "id") kinds.Name ∷ needs (codes "children") kinds.List ∷ []

unfoldable pub dependency_of : List ℕ → Data → Result Dependency TreeFault
dependency_of path d = do
  u ← checks path d dependency_rows
  id ← required name_of path d (codes "id")
  children ← required (list_in name_of) path d (codes "children")
  Ok (record { id = id; children = children })

abbrev pub workflow_document_rows : List Row
workflow_document_rows =
    needs (codes "pegasus") kinds.Text
    ∷ needs (codes "name") kinds.Text
    ∷ needs (codes "jobs") kinds.List
    ∷ may_have (codes "jobDependencies") kinds.List
    ∷ may_have (codes "siteCatalog") kinds.Object
    ∷ may_have (codes "replicaCatalog") kinds.Object
    ∷ may_have (codes "transformationCatalog") kinds.Object
    ∷ []

-- a whole document; absent lists are empty, and catalogues are kept as the trees that they are
unfoldable pub workflow_document_of : List ℕ → Data → Result DocumentEntry TreeFault
workflow_document_of path d = do
  u ← checks path d workflow_document_rows
  v ← version_at path d (codes "pegasus")
  name ← required text_of path d (codes "name")
  jobs ← required (list_in job_of) path d (codes "jobs")
  dependencies ← list_or_none dependency_of path d (codes "jobDependencies")
  sites ← optional any_of path d (codes "siteCatalog")
  replicas ← optional any_of path d (codes "replicaCatalog")
  transformations ← optional any_of path d (codes "transformationCatalog")
  Ok (record {
    name = name;
    jobs = jobs;
    dependencies = dependencies;
    sites = sites;
    replicas = replicas;
    transformations = transformations;
  })
