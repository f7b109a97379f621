-- Clusters of placed jobs make a draft.
use Rattle.std.proofs.Common.{◌≡◌, ℕ, zero, suc, ◌<◌, ◌≤◌, true, Bool, List, [], ◌∷◌, length, sym, subst, arith}
use Rattle.std.specs.Prelude.{Option, Some, slice_get}
use Rattle.values.specs.declared.numbers.JobId.{JobId}
use Rattle.values.specs.declared.numbers.SiteId.{SiteId}
use Rattle.workflow_core.specs.declared.clusters.Clusters.{Clusters}
use Rattle.workflow_core.specs.declared.workflow.Workflow.{Workflow}
use Rattle.digraph.specs.Cycle.{Returns}
use Rattle.dependency_graph.specs.Levels.{is_kept}
use Rattle.clustering.specs.code.Condition.{AreParts, BeginsKept, part_of}
use Rattle.plan_request.specs.declared.request.PlanRequest.{PlanRequest}
use Rattle.replica_catalog.specs.declared.catalog.ReplicaCatalog.{ReplicaCatalog}
use Rattle.transfer_refiner.specs.Draft.{Draft, planned, number_of_site, site_of}
use Rattle.transfer_refiner.specs.code.Conditions.{IsDraft, leads}

abbrev pub no_parts : Clusters
no_parts = record { parts = [] }

-- no parts lead round: the same statement of a draft
abbrev IsAcyclic : Draft → Type 0
IsAcyclic d = (c : ℕ) → Returns (leads d) c → ⊥

acyclic_ : (w : Workflow) (c : Clusters) (sites : List (Option SiteId)) (rs : ReplicaCatalog) (r : PlanRequest) (kept : List Bool) → AreParts w kept c.parts → IsAcyclic (planned w c sites rs r)
unfolding leads
acyclic_ w c sites rs r kept parts = parts.acyclic

kept_below : (ks : List Bool) (a : ℕ) → is_kept ks a ≡ true → a < length ks
kept_below [] a h = absurd cc
kept_below (k ∷ ks) zero h = omega arith
kept_below (k ∷ ks) (suc a) h = omega (arith, kept_below ks a h)

-- the workflow without clusters is a draft, and these are parts of its placed jobs
pub with_parts : (w : Workflow) (c : Clusters) (sites : List (Option SiteId)) (rs : ReplicaCatalog) (r : PlanRequest) (kept : List Bool) → IsDraft (planned w no_parts sites rs r) → length kept ≡ length w.jobs → AreParts w kept c.parts
    → ((j : ℕ) (s : SiteId) → slice_get sites j ≡ Some (Some s) → s.0 < length r.execute)
    → ((j : ℕ) → is_kept kept j ≡ true → j < length w.jobs → (s : SiteId) × (slice_get sites j ≡ Some (Some s)))
    → IsDraft (planned w c sites rs r)
with_parts w c sites rs r kept bare long parts below placed = record {
  formed = bare.formed;
  sound = bare.sound;
  few_sites = bare.few_sites;
  site_names = bare.site_names;
  jobs_placed = bare.jobs_placed;
  sites_below = below;
  jobs_below = λ n j h. subst (λ (m : ℕ). j < m) long (parts.below n j h);
  one_part = parts.one_part;
  once = parts.once;
  few_parts = subst (λ (m : ℕ). length c.parts ≤ m) long parts.few;
  site_below = λ n l. at_first (part_of c.parts n) (parts.begins n l);
  ordered = parts.ordered;
  acyclic = acyclic_ w c sites rs r kept parts;
}
  where
    at_first : (js : List JobId) → BeginsKept kept js → site_of (planned w c sites rs r) js < length r.execute
    at_first [] h = absurd h
    at_first (j ∷ js) h =
        let site = placed j.0 h (subst (λ (m : ℕ). j.0 < m) long (kept_below kept j.0 h)) in
        subst (λ (o : Option (Option SiteId)). number_of_site o < length r.execute) (sym site.1) (below j.0 site.0 site.1)
