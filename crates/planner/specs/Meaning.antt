-- What the files of a request's workflow are worth, and when the registered replicas are honest.
use Rattle.std.specs.Prelude.{◌≡◌, ℕ, true, List, [], ◌∷◌, find, map, Option, Some, None, IfSome, is_some, option_map, slice_get}
use Rattle.std.specs.List.{AllByRecursion}
use Rattle.sha2.specs.Sha256.{sha256}
use Rattle.values.specs.Apply.{Apply}
use Rattle.workflow_core.specs.declared.workflow.Job.{Job}
use Rattle.replica_catalog.specs.declared.catalog.Pfn.{Pfn}
use Rattle.replica_catalog.specs.declared.catalog.Replica.{Replica}
use Rattle.replica_catalog.specs.Lookup.{is_of, pfns_in}
use Rattle.plan_request.specs.declared.request.PlanRequest.{PlanRequest}
use Rattle.plan_request.specs.JobTools.{tool_of}
use Rattle.dependency_graph.specs.Value.{Basis, basis, value}
use Rattle.transfer_refiner.specs.Draft.{entry_in}
use Rattle.planner.specs.declared.inputs.Survey.{Survey}

-- what stands at each pfn
abbrev pub Told : Type 0
Told = List ℕ → Option (List ℕ)

-- the entry that registers a file
abbrev pub replica_in_survey : Survey → ℕ → Option Replica
replica_in_survey s f = entry_in s.replicas.entries (slice_get s.workflow.files f)

-- the bytes at the first of some pfns
abbrev pub first_told : Told → List Pfn → Option (List ℕ)
first_told told [] = None
first_told told (x ∷ xs) = told x.pfn

-- the base of the file with a name: the bytes at its first registered pfn
abbrev pub base : Told → List Replica → List ℕ → Option (List ℕ)
base told es lfn = first_told told (pfns_in (find (is_of lfn) es))

-- the tools that the request states for the jobs, and the bases that are registered
abbrev pub basis_of : Apply → Told → PlanRequest → Survey → Basis
basis_of apply told r s = basis apply
    (map (λ (j : Job). tool_of r.tools j.transformation.name) s.workflow.jobs)
    (map (base told s.replicas.entries) s.workflow.files)

-- the value of a file
abbrev pub value_of : Apply → Told → PlanRequest → Survey → ℕ → Option (List ℕ)
value_of apply told r s f = value (basis_of apply told r s) s.workflow f

-- An entry's file has a value, each of its pfns holds it, and its checksum, if one is registered, is the value's SHA-256.
pub record HoldsValue (told : Told) (e : Replica) (v : Option (List ℕ)) : Type 0 where
  pub defined : is_some v ≡ true
  pub held : AllByRecursion (λ (x : Pfn). told x.pfn ≡ v) e.pfns
  pub checksum : IfSome e.checksum (λ (sum : List ℕ). option_map sha256 v ≡ Some sum)

-- what is asked of an entry: nothing where it has no pfn
abbrev pub IsHonest : Told → Option (List ℕ) → Replica → Type 0
IsHonest told v e = (x : Pfn) (xs : List Pfn) → e.pfns ≡ x ∷ xs → HoldsValue told e v

-- the registered replicas hold the values of their files
abbrev pub AreHonest : Apply → Told → PlanRequest → Survey → Type 0
AreHonest apply told r s = (f : ℕ) → IfSome (replica_in_survey s f) (IsHonest told (value_of apply told r s f))
