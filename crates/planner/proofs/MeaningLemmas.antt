-- Plans mean the workflow: values are made of values, honest replicas hold them, and requested files are at hand.
use Rattle.std.proofs.Common.{◌≡◌, ℕ, zero, suc, ◌<◌, Bool, true, false, not, ◌||◌, ◌&&◌, List, [], ◌∷◌, length, map, refl, sym, ap, subst, ◌∙◌, nat_eq, ◌⊎◌, inl, inr}
use Rattle.std.specs.Prelude.{Option, Some, None, IfSome, option_and_then, slice_get, slice_index_or}
use Rattle.std.specs.List.{AllByRecursion, list_any}
use Rattle.std.proofs.lemmas.Option.{get_or_from_slice_get, slice_get_within}
use Rattle.values.specs.Apply.{Apply, part}
use Rattle.values.specs.declared.numbers.JobId.{JobId}
use Rattle.values.specs.declared.numbers.SiteId.{SiteId}
use Rattle.workflow_core.specs.declared.clusters.Clusters.{Clusters}
use Rattle.workflow_core.specs.declared.workflow.Job.{Job}
use Rattle.workflow_core.specs.declared.workflow.Output.{Output}
use Rattle.workflow_core.specs.declared.workflow.Workflow.{Workflow}
use Rattle.workflow_core.specs.Requested.{is_requested, requests}
use Rattle.workflow_core.specs.WellFormed.{outputs_of}
use Rattle.dependency_graph.specs.Built.{workflow_file_name}
use Rattle.dependency_graph.specs.Edges.{is_among, written_by}
use Rattle.dependency_graph.specs.code.Flow.{FlowsAlong}
use Rattle.dependency_graph.specs.Levels.{is_kept}
use Rattle.dependency_graph.specs.code.Value.{made_by}
use Rattle.data_reuse.specs.Kept.{IsKept}
use Rattle.data_reuse.specs.Absent.{absent_in}
use Rattle.replica_catalog.specs.declared.catalog.Pfn.{Pfn}
use Rattle.replica_catalog.specs.declared.catalog.Replica.{Replica}
use Rattle.replica_catalog.specs.Lookup.{is_registered, pfns_in}
use Rattle.plan_request.specs.declared.request.Cleanup.{Cleanup}
use Rattle.plan_request.specs.declared.request.Cleanup.TheVariants as cleanup
use Rattle.plan_request.specs.declared.request.PlanRequest.{PlanRequest}
use Rattle.plan_request.specs.declared.request.ToolOf.{ToolOf}
use Rattle.plan_request.specs.JobTools.{tool_of}
use Rattle.dependency_graph.specs.Graph.{numbers as job_numbers}
use Rattle.plan_core.specs.declared.plan.Plan.{Plan}
use Rattle.plan_core.specs.Numbers.{has}
use Rattle.plan_core.proofs.NumbersLemmas.{any_has}
use Rattle.plan_core.proofs.TestLemmas.{and_both, both, by_bool, either, or_left, or_right}
use Rattle.transfer_refiner.specs.Draft.{Draft, entry_in, part_makes}
use Rattle.transfer_refiner.specs.code.Meaning.{AreAtHand, AreHeld, AreValues}
use Rattle.transfer_refiner.specs.code.Tasks.{is_made}
use Rattle.transfer_refiner.proofs.MakersLemmas.{any_number}
use Rattle.transfer_refiner.proofs.MeaningLemmas.{writes_at}
use Rattle.transfer_refiner.proofs.SliceLemmas.{place_of_any}
use Rattle.cleanup_refiner.specs.Cleans.{with_cleanup, with_cleans}
use Rattle.planner.specs.declared.inputs.Survey.{Survey}
use Rattle.planner.specs.Meaning.{AreHonest, IsHonest, Told, basis_of, value_of}
use Rattle.planner.specs.code.Planning.{draft}
use Rattle.planner.specs.code.Sites.{AreLeveled}

-- ---- requested files are at hand

asked_output : (f : ℕ) (os : List Output) → list_any (λ (o : Output). o.stage_out && nat_eq o.file.0 f) os ≡ true → has (map (λ (o : Output). o.file.0) os) f ≡ true
asked_output f [] h = absurd cc
asked_output f (o ∷ os) h = by (λ k. asked_output f os k) (either (o.stage_out && nat_eq o.file.0 f) (list_any (λ (o : Output). o.stage_out && nat_eq o.file.0 f) os) h)
  where
    by : (list_any (λ (o : Output). o.stage_out && nat_eq o.file.0 f) os ≡ true → has (map (λ (o : Output). o.file.0) os) f ≡ true) → ((o.stage_out && nat_eq o.file.0 f) ≡ true) ⊎ (list_any (λ (o : Output). o.stage_out && nat_eq o.file.0 f) os ≡ true) → has (o.file.0 ∷ map (λ (o : Output). o.file.0) os) f ≡ true
    by rest (inl e) = or_left (nat_eq o.file.0 f) (has (map (λ (o : Output). o.file.0) os) f) (both o.stage_out (nat_eq o.file.0 f) e).1
    by rest (inr e) = or_right (nat_eq o.file.0 f) (has (map (λ (o : Output). o.file.0) os) f) (rest e)

-- the job that makes a requested file
record Asked (w : Workflow) (f : ℕ) : Type 0 where
  pub a : ℕ
  pub below : a < length w.jobs
  pub makes_it : has (written_by w a) f ≡ true

asked : (w : Workflow) (f : ℕ) → is_requested w f ≡ true → Asked w f
asked w f h =
    let place = place_of_any (requests f) w.jobs h in
    record { a = place.0; below = slice_get_within w.jobs place.0 place.1 place.2; makes_it = ap (λ (xs : List ℕ). has xs f) (writes_at w.jobs place.0 place.1 place.2) ∙ asked_output f place.1.outputs place.3 }

any_more : (test other : List JobId → Bool) (parts : List (List JobId)) → ((js : List JobId) → test js ≡ true → other js ≡ true) → list_any test parts ≡ true → list_any other parts ≡ true
any_more test other [] more h = absurd cc
any_more test other (js ∷ parts) more h = by (λ k. any_more test other parts more k) (either (test js) (list_any test parts) h)
  where
    by : (list_any test parts ≡ true → list_any other parts ≡ true) → (test js ≡ true) ⊎ (list_any test parts ≡ true) → (other js || list_any other parts) ≡ true
    by rest (inl e) = or_left (other js) (list_any other parts) (more js e)
    by rest (inr e) = or_right (other js) (list_any other parts) (rest e)

not_absent : (force registered : Bool) → (force || not registered) ≡ false → registered ≡ true
not_absent true r h = absurd cc
not_absent false true h = refl
not_absent false false h = absurd cc

-- of a file that no part makes the producer isn't kept, so the file is registered
unmade_registered : (r : PlanRequest) (s : Survey) (kept : List Bool) (levels : List ℕ) (parts : List (List JobId)) (d : Draft) → d.workflow ≡ s.workflow → d.parts ≡ parts → AreLeveled r s kept levels
    → ((a : ℕ) → is_kept kept a ≡ true → list_any (λ (js : List JobId). is_among a (job_numbers js)) parts ≡ true)
    → (f : ℕ) → is_requested s.workflow f ≡ true → is_made d f ≡ false → absent_in s.workflow s.replicas.entries r.force f ≡ false
unmade_registered r s kept levels parts d same are leveled clustered f h unmade = by_bool (is_kept kept job.a) (λ k. absurd (contradiction k)) not_kept
  where
    job : Asked s.workflow f
    job = asked s.workflow f h

    absent : ℕ → Bool
    absent = absent_in s.workflow s.replicas.entries r.force

    made_there : (js : List JobId) → is_among job.a (job_numbers js) ≡ true → part_makes d js f ≡ true
    made_there js e = any_number (λ j. has (written_by d.workflow j) f) js job.a e (ap (λ (w : Workflow). has (written_by w job.a) f) same ∙ job.makes_it)

    contradiction : is_kept kept job.a ≡ true → ⊥
    contradiction k =
        let made = any_more (λ (js : List JobId). is_among job.a (job_numbers js)) (λ (js : List JobId). part_makes d js f) parts made_there (clustered job.a k) in
        let x : true ≡ false = sym made ∙ ap (list_any (λ (js : List JobId). part_makes d js f)) (sym are) ∙ unmade in cc

    kept_if : absent f ≡ true → IsKept absent s.workflow job.a
    kept_if e = record { steps = 0; last = job.a; way = refl; wanted = any_has (λ g. absent g && is_requested s.workflow g) f (written_by s.workflow job.a) job.makes_it (and_both (absent f) (is_requested s.workflow f) e h) }

    not_kept : is_kept kept job.a ≡ false → absent f ≡ false
    not_kept k = by_bool (absent f) (λ e. absurd (let x : false ≡ true = sym k ∙ (leveled.are_kept.each job.a job.below).1 (kept_if e) in cc)) (λ e. e)

pub at_hand : (r : PlanRequest) (s : Survey) (sites : List (Option SiteId)) (clusters : Clusters) (kept : List Bool) (levels : List ℕ) → AreLeveled r s kept levels
    → ((a : ℕ) → is_kept kept a ≡ true → list_any (λ (js : List JobId). is_among a (job_numbers js)) clusters.parts ≡ true) → AreAtHand (draft r s sites clusters)
at_hand r s sites clusters kept levels leveled clustered f h unmade =
    not_absent r.force (is_registered s.replicas.entries (workflow_file_name s.workflow f)) (unmade_registered r s kept levels clusters.parts (draft r s sites clusters) refl refl leveled clustered f h unmade)

-- ---- values, and replicas that hold them

tool_of_job : (tools : List ToolOf) (js : List Job) (a : ℕ) (j : Job) → slice_get js a ≡ Some j → slice_index_or (map (λ (x : Job). tool_of tools x.transformation.name) js) a [] ≡ tool_of tools j.transformation.name
tool_of_job tools [] a j e = absurd cc
tool_of_job tools (x ∷ js) zero j e = let same : x ≡ j = cc in ap (λ (y : Job). tool_of tools y.transformation.name) same
tool_of_job tools (x ∷ js) (suc a) j e = tool_of_job tools js a j e

pub values_are : (apply : Apply) (told : Told) (r : PlanRequest) (s : Survey) (order : List JobId) → FlowsAlong s.workflow order → AreValues apply r.tools s.workflow (value_of apply told r s)
values_are apply told r s order flows a f j at makes_it =
    flows.outputs (basis_of apply told r s) a f j (slice_get_within s.workflow.jobs a j at) (get_or_from_slice_get s.workflow.jobs a j j at) makes_it
    ∙ ap (λ (t : List ℕ). option_and_then (part f (outputs_of j)) (made_by (basis_of apply told r s) s.workflow t j)) (tool_of_job r.tools s.workflow.jobs a j at)

held_in : (told : Told) (v : Option (List ℕ)) (o : Option Replica) → IfSome o (IsHonest told v) → AllByRecursion (λ (x : Pfn). told x.pfn ≡ v) (pfns_in o)
held_in told v None h = tt
held_in told v (Some e) h = of_pfns e.pfns refl
  where
    of_pfns : (xs : List Pfn) → e.pfns ≡ xs → AllByRecursion (λ (x : Pfn). told x.pfn ≡ v) e.pfns
    of_pfns [] is = subst (AllByRecursion (λ (x : Pfn). told x.pfn ≡ v)) (sym is) tt
    of_pfns (x ∷ xs) is = (h x xs is).held

pub replicas_hold : (apply : Apply) (told : Told) (r : PlanRequest) (s : Survey) (sites : List (Option SiteId)) (clusters : Clusters) → AreHonest apply told r s → AreHeld (draft r s sites clusters) told (value_of apply told r s)
replicas_hold apply told r s sites clusters honest f =
    held_in told (value_of apply told r s f) (entry_in s.replicas.entries (slice_get s.workflow.files f))
    (honest f)

-- ---- Cleans

pub with_strategy : (P : Plan → Type 0) (strategy : Cleanup) (bare : Plan) → P bare → P (with_cleans bare) → P (with_cleanup strategy bare)
with_strategy P cleanup.None bare h k = h
with_strategy P cleanup.Inplace bare h k = k
with_strategy P cleanup.Constraint bare h k = k
