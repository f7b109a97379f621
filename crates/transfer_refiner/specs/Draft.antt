-- What is planned: a workflow whose jobs are clustered and placed. Which files its parts make and need, where, and where each comes from.
use Rattle.std.specs.Prelude.{ℕ, ◌==◌, ◌&&◌, ◌||◌, Bool, not, List, [], ◌∷◌, if◌then◌else◌, find, Option, Some, None, slice_get, slice_index_or, unwrap_or, option_map}
use Rattle.std.specs.List.{list_any}
use Rattle.std.specs.Str.{bytes_eq}
use Rattle.values.specs.declared.numbers.JobId.{JobId}
use Rattle.values.specs.declared.numbers.SiteId.{SiteId}
use Rattle.workflow_core.specs.declared.clusters.Clusters.{Clusters}
use Rattle.workflow_core.specs.declared.workflow.Workflow.{Workflow}
use Rattle.replica_catalog.specs.declared.catalog.Pfn.{Pfn}
use Rattle.replica_catalog.specs.declared.catalog.Replica.{Replica}
use Rattle.replica_catalog.specs.declared.catalog.ReplicaCatalog.{ReplicaCatalog}
use Rattle.replica_catalog.specs.Lookup.{is_of, pfns_in}
use Rattle.plan_request.specs.declared.request.Execution.{Execution}
use Rattle.plan_request.specs.declared.request.PlanRequest.{PlanRequest}
use Rattle.plan_request.specs.FileSizes.{declared_sizes}
use Rattle.dependency_graph.specs.Edges.{read_by, written_by}
use Rattle.plan_core.specs.Numbers.{has}

-- A workflow, the parts into which its kept jobs are put, the site of each kept job, the entries of a replica catalogue, and the request.
pub record Draft : Type 0 where
  pub workflow : Workflow
  pub parts : List (List JobId)
  pub sites : List (Option SiteId)
  pub replicas : List Replica
  pub request : PlanRequest

abbrev pub planned : Workflow → Clusters → List (Option SiteId) → ReplicaCatalog → PlanRequest → Draft
planned w c sites replicas r = record {
  workflow = w;
  parts = c.parts;
  sites = sites;
  replicas = replicas.entries;
  request = r;
}

-- ---- what a part's jobs read and make

-- one of the jobs has the file among its inputs; among its outputs; they read it and none of them makes it
abbrev pub part_uses : Draft → List JobId → ℕ → Bool
part_uses d js f = list_any (λ (j : JobId). has (read_by d.workflow j.0) f) js

abbrev pub part_makes : Draft → List JobId → ℕ → Bool
part_makes d js f = list_any (λ (j : JobId). has (written_by d.workflow j.0) f) js

abbrev pub part_needs : Draft → List JobId → ℕ → Bool
part_needs d js f = part_uses d js f && not (part_makes d js f)

-- the site of a part: that of its first job
abbrev pub number_of_site : Option (Option SiteId) → ℕ
number_of_site (Some (Some s)) = s.0
number_of_site (Some None) = 0
number_of_site None = 0

abbrev pub site_of : Draft → List JobId → ℕ
site_of d [] = 0
site_of d (j ∷ js) = number_of_site (slice_get d.sites j.0)

-- ---- what stands at a site

-- a part at the site makes the file; needs it
abbrev pub made_at : Draft → ℕ → ℕ → Bool
made_at d s f = list_any (λ (js : List JobId). (site_of d js == s) && part_makes d js f) d.parts

abbrev pub needed_at : Draft → ℕ → ℕ → Bool
needed_at d s f = list_any (λ (js : List JobId). (site_of d js == s) && part_needs d js f) d.parts

-- the file has to come to the site; it stands there at some time
unfoldable pub moves : Draft → ℕ → ℕ → Bool
moves d f s = needed_at d s f && not (made_at d s f)

unfoldable pub stands : Draft → ℕ → ℕ → Bool
stands d s f = made_at d s f || needed_at d s f

-- the site at which a part makes the file, if one does
abbrev pub home_among : Draft → List (List JobId) → ℕ → Option ℕ
home_among d [] f = None
home_among d (js ∷ parts) f = if part_makes d js f then Some (site_of d js) else home_among d parts f

unfoldable pub home : Draft → ℕ → Option ℕ
home d f = home_among d d.parts f

-- ---- what is registered and declared of a file

abbrev pub draft_file_name : Draft → ℕ → List ℕ
draft_file_name d f = slice_index_or d.workflow.files f []

abbrev pub entry_in : List Replica → Option (List ℕ) → Option Replica
entry_in rs None = None
entry_in rs (Some n) = find (is_of n) rs

abbrev pub replica_in_draft : Draft → ℕ → Option Replica
replica_in_draft d f = entry_in d.replicas (slice_get d.workflow.files f)

-- the registered pfns; the first, and the first on a site of this name, else the first
abbrev pub pfns_of : Draft → ℕ → List Pfn
pfns_of d f = pfns_in (replica_in_draft d f)

abbrev pub first_pfn : List Pfn → List ℕ
first_pfn [] = []
first_pfn (x ∷ xs) = x.pfn

abbrev pub first_on : List ℕ → List Pfn → List ℕ → List ℕ
first_on name [] other = other
first_on name (x ∷ xs) other = if bytes_eq x.site name then x.pfn else first_on name xs other

abbrev pub chosen : Draft → ℕ → ℕ → List ℕ
chosen d f s = first_on (unwrap_or (option_map (λ (e : Execution). e.site) (slice_get d.request.execute s)) []) (pfns_of d f) (first_pfn (pfns_of d f))

abbrev pub draft_sizes : Draft → List (Option ℕ)
draft_sizes d = declared_sizes d.request d.workflow.files d.workflow.sizes

abbrev pub declared_of : Draft → ℕ → Option ℕ
declared_of d f = slice_index_or (draft_sizes d) f None
