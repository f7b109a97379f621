-- What a request says: what its tree is, and what the whole document reads as, or its first fault.
use Rattle.std.specs.Prelude.{ℕ, List, not, filter, Option, Some, None, Result, Ok, unwrap_or, option_map, ◌==◌, if◌then◌else◌, Err, ◌^◌, [], ◌∷◌, codes, map, false}
use Rattle.std.specs.List.{reduce}
use Rattle.std.specs.Ordering.{nat_cmp, min_by_ordering}
use Rattle.std.specs.Cmp.Lexicographic.{slice_cmp}
use Rattle.std.specs.Str.{bytes_eq}
use Rattle.serde_json.specs.Data.{Data}
use Rattle.serde_json.specs.Find as find
use Rattle.values.specs.declared.policy.Policy.{Policy}
use Rattle.peg_json.specs.Path.{key_path}
use Rattle.peg_json.specs.Refused.{unsupported}
use Rattle.peg_json.specs.Table.{Row, is_key, keys_in, needs, checks, may_have}
use Rattle.peg_json.specs.declared.fault.TreeFault.{TreeFault}
use Rattle.peg_json.specs.declared.fault.TreeFault.TheVariants as faults
use Rattle.peg_json.specs.Tree.{◌>>=◌, list_in, then_read, tree_of}
use Rattle.peg_json.specs.Typed.{required, name_of, number_of, optional, text_of, flag_of}
use Rattle.peg_json.specs.declared.row.Kind.TheVariants as kinds
use Rattle.peg_json.specs.Entries.{entries_in}
use Rattle.peg_json.specs.Elements.{sites_checked}
use Rattle.peg_json.specs.declared.read_fault.ReadFault.{ReadFault}
use Rattle.plan_request.specs.declared.request.Execution.{Execution}
use Rattle.plan_request.specs.declared.request.SizeOf.{SizeOf}
use Rattle.plan_request.specs.declared.request.ToolOf.{ToolOf}
use Rattle.plan_request.specs.declared.request.ClusterMode.{ClusterMode}
use Rattle.plan_request.specs.declared.request.ClusterMode.TheVariants as clusters
use Rattle.plan_request.specs.declared.request.Cleanup.{Cleanup}
use Rattle.plan_request.specs.declared.request.Cleanup.TheVariants as cleanups
use Rattle.plan_request.specs.declared.request.Runtime.{Runtime}
use Rattle.plan_request.specs.declared.request.Selector.{Selector}
use Rattle.plan_request.specs.declared.request.Selector.TheVariants as selectors
use Rattle.plan_request.specs.declared.request.PlanRequest.{PlanRequest}

-- of two keys the one whose path comes first in byte order
abbrev pub earlier : List ℕ → List ℕ → List ℕ → List ℕ
earlier path j k = min_by_ordering (slice_cmp nat_cmp (key_path path j) (key_path path k)) j k

-- among the keys that no row has the one whose path comes first
abbrev pub first_unknown_key : List ℕ → List Row → List (List ℕ) → Option (List ℕ)
first_unknown_key path rows keys = reduce (earlier path) (filter (λ k. not (is_key rows k)) keys)

-- a key that no row has is a fault
abbrev pub unknown_refused : List ℕ → Option (List ℕ) → Result (Unit {0}) TreeFault
unknown_refused path None = Ok tt
unknown_refused path (Some key) = unsupported path key

-- an object without unknown keys
abbrev pub only_known : List ℕ → Data → List Row → Result (Unit {0}) TreeFault
only_known path d rows = unwrap_or
    (option_map (λ ms. unknown_refused path (first_unknown_key path rows (keys_in ms))) (find.as_object d)) (Ok tt)

abbrev pub positive : List ℕ → ℕ → Result ℕ TreeFault
positive path n = if n == 0 then Err (faults.OutOfRange path n) else Ok n

abbrev pub execution_rows : List Row
execution_rows = needs (codes "site") kinds.Name ∷ needs (codes "bound") kinds.Number ∷ []

unfoldable pub execution_of : List ℕ → Data → Result Execution TreeFault
execution_of path d = do
  u ← checks path d execution_rows
  v ← only_known path d execution_rows
  site ← required name_of path d (codes "site")
  bound ← required (number_of (2 ^ 60)) path d (codes "bound")
  Ok (record { site = site; bound = bound })

-- a size: a whole number up to 2^40
abbrev pub size_of : List ℕ → Data → Result ℕ TreeFault
size_of path d = number_of (2 ^ 40) path d

abbrev pub size_entry : List ℕ × ℕ → SizeOf
size_entry e = record { lfn = e.0; size = e.1 }

-- an object from names of files to sizes, read in byte order of the names
unfoldable pub size_entries_of : List ℕ → Data → Result (List SizeOf) TreeFault
size_entries_of path d = entries_in size_of path d >>= λ entries. Ok (map size_entry entries)

-- the sizes at a key that may be absent
abbrev pub sizes_or_none : List ℕ → Data → List ℕ → Result (List SizeOf) TreeFault
sizes_or_none path d key = optional size_entries_of path d key >>= λ found. Ok (unwrap_or found [])

abbrev pub tool_entry : List ℕ × List ℕ → ToolOf
tool_entry e = record { transformation = e.0; tool = e.1 }

-- an object from names of transformations to names of tools, read in byte order of the former
unfoldable pub tools_of : List ℕ → Data → Result (List ToolOf) TreeFault
tools_of path d = entries_in name_of path d >>= λ entries. Ok (map tool_entry entries)

-- the tools at a key that may be absent
abbrev pub tools_or_none : List ℕ → Data → List ℕ → Result (List ToolOf) TreeFault
tools_or_none path d key = optional tools_of path d key >>= λ found. Ok (unwrap_or found [])

abbrev pub cluster_named : List ℕ → Option (List ℕ) → Result ClusterMode TreeFault
cluster_named path None = Ok clusters.None
cluster_named path (Some s) =
    if bytes_eq s (codes "none") then Ok clusters.None
    else (if bytes_eq s (codes "horizontal") then Ok clusters.Horizontal
    else (if bytes_eq s (codes "label") then Ok clusters.Label
    else Err (faults.Unsupported path s)))

-- the clustering at a key; none where it is absent
abbrev pub cluster_at : List ℕ → Data → List ℕ → Result ClusterMode TreeFault
cluster_at path d key = optional text_of path d key >>= cluster_named (key_path path key)

abbrev pub cleanup_named : List ℕ → Option (List ℕ) → Result Cleanup TreeFault
cleanup_named path None = Ok cleanups.Inplace
cleanup_named path (Some s) =
    if bytes_eq s (codes "inplace") then Ok cleanups.Inplace
    else (if bytes_eq s (codes "constraint") then Ok cleanups.Constraint
    else (if bytes_eq s (codes "none") then Ok cleanups.None
    else Err (faults.Unsupported path s)))

-- the cleanup at a key; in place where it is absent
abbrev pub cleanup_at : List ℕ → Data → List ℕ → Result Cleanup TreeFault
cleanup_at path d key = optional text_of path d key >>= cleanup_named (key_path path key)

-- how often a failed task is tried again, at most ten times; whether fresh orders may begin; and the bound on what is
-- delivered, of at most 2^60 bytes; what is absent is as in the plain policy
unfoldable pub policy_of : List ℕ → Data → Result Policy TreeFault
policy_of path d = do
  retries ← optional (number_of 10) path d (codes "retries")
  fresh ← optional flag_of path d (codes "fresh")
  output ← optional (number_of (2 ^ 60)) path d (codes "output_bound")
  Ok (record {
    retries = unwrap_or retries 0;
    fresh = unwrap_or fresh false;
    output = output;
  })

abbrev pub runtime_rows : List Row
runtime_rows =
    needs (codes "transformation") kinds.Name
    ∷ needs (codes "site") kinds.Name
    ∷ needs (codes "seconds") kinds.Number
    ∷ []

unfoldable pub runtime_of : List ℕ → Data → Result Runtime TreeFault
runtime_of path d = do
  u ← checks path d runtime_rows
  v ← only_known path d runtime_rows
  transformation ← required name_of path d (codes "transformation")
  site ← required name_of path d (codes "site")
  number ← required (number_of (2 ^ 32)) path d (codes "seconds")
  seconds ← positive (key_path path (codes "seconds")) number
  Ok (record { transformation = transformation; site = site; seconds = seconds })

abbrev pub selector_named : List ℕ → Option (List ℕ) → Result Selector TreeFault
selector_named path None = Ok selectors.RoundRobin
selector_named path (Some s) =
    if bytes_eq s (codes "roundrobin") then Ok selectors.RoundRobin
    else (if bytes_eq s (codes "heft") then Ok selectors.Heft
    else Err (faults.Unsupported path s))

-- the way of choosing sites at a key; in turns where it is absent
abbrev pub selector_at : List ℕ → Data → List ℕ → Result Selector TreeFault
selector_at path d key = optional text_of path d key >>= selector_named (key_path path key)

abbrev pub rate_given : List ℕ → Option ℕ → Result ℕ TreeFault
rate_given path None = Ok 1
rate_given path (Some n) = positive path n

-- the rate at a key, from 1 to 2^40; 1 where it is absent
abbrev pub rate_at : List ℕ → Data → List ℕ → Result ℕ TreeFault
rate_at path d key = optional (number_of (2 ^ 40)) path d key >>= rate_given (key_path path key)

-- the runtimes at a key that may be absent
abbrev pub runtimes_or_none : List ℕ → Data → List ℕ → Result (List Runtime) TreeFault
runtimes_or_none path d key = optional (list_in runtime_of) path d key >>= λ found. Ok (unwrap_or found [])

abbrev pub request_rows : List Row
request_rows =
    needs (codes "workflow") kinds.Name
    ∷ may_have (codes "sites") kinds.Name
    ∷ may_have (codes "replicas") kinds.Name
    ∷ may_have (codes "transformations") kinds.Name
    ∷ needs (codes "execute") kinds.List
    ∷ may_have (codes "sizes") kinds.Object
    ∷ may_have (codes "default_size") kinds.Number
    ∷ may_have (codes "cluster") kinds.Text
    ∷ may_have (codes "cleanup") kinds.Text
    ∷ may_have (codes "force") kinds.Flag
    ∷ may_have (codes "tools") kinds.Object
    ∷ may_have (codes "retries") kinds.Number
    ∷ may_have (codes "fresh") kinds.Flag
    ∷ may_have (codes "output_bound") kinds.Number
    ∷ may_have (codes "selector") kinds.Text
    ∷ may_have (codes "rate") kinds.Number
    ∷ may_have (codes "runtimes") kinds.List
    ∷ []

-- a whole request; absent lists are empty, and nothing is forced
unfoldable pub request_of : List ℕ → Data → Result PlanRequest TreeFault
request_of path d = do
  u ← checks path d request_rows
  v ← only_known path d request_rows
  workflow ← required name_of path d (codes "workflow")
  sites ← optional name_of path d (codes "sites")
  replicas ← optional name_of path d (codes "replicas")
  transformations ← optional name_of path d (codes "transformations")
  execute ← required (list_in execution_of) path d (codes "execute")
  sizes ← sizes_or_none path d (codes "sizes")
  default_size ← optional (number_of (2 ^ 40)) path d (codes "default_size")
  cluster ← cluster_at path d (codes "cluster")
  cleanup ← cleanup_at path d (codes "cleanup")
  force ← optional flag_of path d (codes "force")
  tools ← tools_or_none path d (codes "tools")
  policy ← policy_of path d
  selector ← selector_at path d (codes "selector")
  rate ← rate_at path d (codes "rate")
  runtimes ← runtimes_or_none path d (codes "runtimes")
  Ok (record {
    workflow = workflow;
    sites = sites;
    replicas = replicas;
    transformations = transformations;
    execute = execute;
    sizes = sizes;
    default_size = default_size;
    cluster = cluster;
    cleanup = cleanup;
    force = unwrap_or force false;
    tools = tools;
    policy = policy;
    selector = selector;
    rate = rate;
    runtimes = runtimes;
  })

-- few execution sites, none twice
unfoldable pub execute_checked : List Execution → Result (Unit {0}) ReadFault
execute_checked es = sites_checked (map (λ (e : Execution). e.site) es)

-- a request with few execution sites, none twice
abbrev pub sites_distinct : PlanRequest → Result PlanRequest ReadFault
sites_distinct r = execute_checked r.execute >>= λ _. Ok r

-- a JSON text
unfoldable pub request_from_text : List ℕ → Result PlanRequest ReadFault
request_from_text bytes = then_read (tree_of bytes) (λ d. then_read (request_of [] d) sites_distinct)
