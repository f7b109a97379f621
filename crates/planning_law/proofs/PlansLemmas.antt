-- The plan of a request's documents is one.
use Rattle.std.proofs.Common.{◌≡◌, ℕ, Bool, List, [], length, map, sym, ap, subst, ◌∙◌}
use Rattle.std.specs.Prelude.{Option, slice_index_or}
use Rattle.std.specs.List.{AllByRecursion}
use Rattle.values.specs.declared.numbers.SiteId.{SiteId}
use Rattle.workflow_core.specs.declared.clusters.Clusters.{Clusters}
use Rattle.workflow_core.specs.declared.workflow.Job.{Job}
use Rattle.workflow_core.specs.declared.workflow.Workflow.{Workflow}
use Rattle.workflow_core.specs.WellFormed.{inputs_of, outputs_of}
use Rattle.transformation_catalog.specs.declared.catalog.TransformationCatalog.{TransformationCatalog}
use Rattle.transformation_catalog.specs.declared.catalog.TransformationEntry.{TransformationEntry}
use Rattle.plan_request.specs.declared.request.Execution.{Execution}
use Rattle.plan_request.specs.FileSizes.{declared_sizes}
use Rattle.plan_request.specs.code.Limits.{IsRuntimeInRange}
use Rattle.plan_request.specs.declared.request.PlanRequest.{PlanRequest}
use Rattle.plan_request.specs.declared.request.Selector.{Selector}
use Rattle.plan_request.specs.declared.request.Selector.TheVariants as selectors
use Rattle.dependency_graph.specs.Graph.{IsGraphOf}
use Rattle.dependency_graph.specs.Levels.{AreLevels}
use Rattle.data_reuse.specs.Absent.{absent_in}
use Rattle.data_reuse.specs.Kept.{AreKept}
use Rattle.site_selector.specs.Selecting.{IsSelected, Selection}
use Rattle.list_schedule.specs.Estimates.{Estimates}
use Rattle.list_schedule.specs.Schedule.{IsHeft}
use Rattle.heft_selector.specs.Candidates.{candidates_at}
use Rattle.heft_selector.specs.Costs.{bytes_read, transformation_name, seconds, seconds_for}
use Rattle.heft_selector.specs.Selecting.{estimates}
use Rattle.clustering.specs.Basis.{ClusteringInput as Basis, clustering_input}
use Rattle.plan_core.specs.declared.plan.Plan.{Plan}
use Rattle.transfer_refiner.specs.Draft.{Draft}
use Rattle.transfer_refiner.specs.Refined.{IsRefined}
use Rattle.cleanup_refiner.specs.Cleans.{with_cleanup}
use Rattle.planner.specs.declared.inputs.Survey.{Survey}
use Rattle.planner.specs.code.Planning.{IsPlanOf, draft}
use Rattle.planner.specs.Sites.{AreChosen, selection_of}
use Rattle.planning_law.proofs.ClustersLemmas.{AreTogether, are_together, one_clustering}
use Rattle.planning_law.proofs.DraftsLemmas.{SayTheSame, refined_over}
use Rattle.planning_law.proofs.GraphsLemmas.{heft_over, levels_over, same_children, same_parents}
use Rattle.planning_law.proofs.KeptLemmas.{kept_over, one_kept, one_level_list, same_absent}
use Rattle.planning_law.proofs.RefinedLemmas.{one_refinement}
use Rattle.planning_law.proofs.SchedulesLemmas.{one_schedule}
use Rattle.planning_law.proofs.SelectionLemmas.{one_selection}

-- ---- what decides a plan

-- the steps from a survey to a plan
record IsMade (r : PlanRequest) (s : Survey) (p : Plan) : Type 0 where
  kept : List Bool
  levels : List ℕ
  are_kept : AreKept (absent_in s.workflow s.replicas.entries r.force) s.workflow kept
  are_levels : AreLevels s.graph kept levels
  sites : List (Option SiteId)
  chosen : AreChosen r.selector r s kept levels sites
  clusters : Clusters
  together : AreTogether r.cluster (clustering_input s.workflow levels sites s.transformations) kept clusters
  bare : Plan
  refined : IsRefined (draft r s sites clusters) bare
  cleaned_is : p ≡ with_cleanup r.cleanup bare

made : (r : PlanRequest) (s : Survey) (limit : ℕ) (p : Plan) → IsPlanOf r s limit p → IsMade r s p
made r s limit p is = record {
  kept = is.placed.kept;
  levels = is.placed.levels;
  are_kept = is.placed.leveled.are_kept;
  are_levels = is.placed.leveled.are_levels;
  sites = is.sites;
  chosen = is.placed.selected;
  clusters = is.clusters;
  together = are_together r.cluster s.workflow (clustering_input s.workflow is.placed.levels is.sites s.transformations) is.placed.kept is.clusters is.placed.clustered;
  bare = is.bare;
  refined = is.fine.refined;
  cleaned_is = is.cleaned_is;
}

-- ---- of one survey

one_choice : (c : Selector) (r : PlanRequest) (s : Survey) (kept : List Bool) (levels : List ℕ) (one two : List (Option SiteId)) → IsGraphOf s.workflow s.graph → AllByRecursion IsRuntimeInRange r.runtimes → length kept ≡ length s.workflow.jobs
    → AreChosen c r s kept levels one → AreChosen c r s kept levels two → one ≡ two
one_choice selectors.RoundRobin r s kept levels one two graph positive long first second = one_selection (selection_of r s kept levels) one two first second
one_choice selectors.Heft r s kept levels one two graph positive long first second =
    first.sites_are ∙ one_schedule s.workflow s.graph kept r s.transformations first.schedule second.schedule graph long positive first.is_heft second.is_heft ∙ sym second.sites_are

one_making : (r : PlanRequest) (s : Survey) (p q : Plan) → IsGraphOf s.workflow s.graph → AllByRecursion IsRuntimeInRange r.runtimes → IsMade r s p → IsMade r s q → p ≡ q
one_making r s p q graph positive one two = one.cleaned_is ∙ ap (with_cleanup r.cleanup) bare ∙ sym two.cleaned_is
  where
    kept : one.kept ≡ two.kept
    kept = one_kept (absent_in s.workflow s.replicas.entries r.force) s.workflow one.kept two.kept one.are_kept two.are_kept

    levels : one.levels ≡ two.levels
    levels = one_level_list s.workflow s.graph one.kept one.levels two.levels graph one.are_kept.long one.are_levels
        (subst (λ (ks : List Bool). AreLevels s.graph ks two.levels) (sym kept) two.are_levels)

    chosen : AreChosen r.selector r s one.kept one.levels two.sites
    chosen = subst (λ (ks : List Bool). AreChosen r.selector r s ks one.levels two.sites) (sym kept) (subst (λ (ls : List ℕ). AreChosen r.selector r s two.kept ls two.sites) (sym levels) two.chosen)

    sites : one.sites ≡ two.sites
    sites = one_choice r.selector r s one.kept one.levels one.sites two.sites graph positive one.are_kept.long one.chosen chosen

    together : AreTogether r.cluster (clustering_input s.workflow one.levels one.sites s.transformations) one.kept two.clusters
    together = subst (λ (ks : List Bool). AreTogether r.cluster (clustering_input s.workflow one.levels one.sites s.transformations) ks two.clusters) (sym kept)
        (subst (λ (ls : List ℕ). AreTogether r.cluster (clustering_input s.workflow ls one.sites s.transformations) two.kept two.clusters) (sym levels)
        (subst (λ (xs : List (Option SiteId)). AreTogether r.cluster (clustering_input s.workflow two.levels xs s.transformations) two.kept two.clusters) (sym sites) two.together))

    clusters : one.clusters ≡ two.clusters
    clusters = one_clustering r.cluster (clustering_input s.workflow one.levels one.sites s.transformations) one.kept one.clusters two.clusters one.together together

    drafts : draft r s one.sites one.clusters ≡ draft r s two.sites two.clusters
    drafts = ap (λ (xs : List (Option SiteId)). draft r s xs one.clusters) sites ∙ ap (λ (c : Clusters). draft r s two.sites c) clusters

    bare : one.bare ≡ two.bare
    bare = one_refinement (draft r s one.sites one.clusters) one.bare two.bare one.refined (subst (λ (d : Draft). IsRefined d two.bare) (sym drafts) two.refined)

pub one_plan : (r : PlanRequest) (s : Survey) (limit : ℕ) (p q : Plan) → IsGraphOf s.workflow s.graph → AllByRecursion IsRuntimeInRange r.runtimes → IsPlanOf r s limit p → IsPlanOf r s limit q → p ≡ q
one_plan r s limit p q graph positive one two = one_making r s p q graph positive (made r s limit p one) (made r s limit q two)

-- ---- of two surveys that say the same

-- they differ in what isn't acted on, and in the order of the graph
pub record AreAlike (s t : Survey) : Type 0 where
  pub workflow : SayTheSame s.workflow t.workflow
  pub replicas : s.replicas.entries ≡ t.replicas.entries
  pub transformations : s.transformations.entries ≡ t.transformations.entries

abbrev selection_by : List Job → List TransformationEntry → List Bool → List ℕ → PlanRequest → Selection
selection_by js es kept levels r = record { jobs = js; kept = kept; levels = levels; execute = r.execute; entries = es }

abbrev estimates_by : List Job → List (List ℕ) → List (Option ℕ) → List TransformationEntry → List Bool → PlanRequest → Estimates
estimates_by js files sizes es kept r = record {
  candidates = candidates_at (record { jobs = js; kept = kept; execute = r.execute; entries = es });
  time = λ a x. seconds r.runtimes (slice_index_or (map transformation_name js) a []) (slice_index_or (map (λ (e : Execution). e.site) r.execute) x []);
  move = λ a b. seconds_for (bytes_read (declared_sizes r files sizes) (slice_index_or (map inputs_of js) b []) (slice_index_or (map outputs_of js) a [])) r.rate;
}

estimates_same : (v w : Workflow) (kept : List Bool) (r : PlanRequest) (t u : TransformationCatalog) → SayTheSame v w → t.entries ≡ u.entries → estimates v kept r t ≡ estimates w kept r u
estimates_same v w kept r t u same entries =
    ap (λ (js : List Job). estimates_by js v.files v.sizes t.entries kept r) same.jobs
    ∙ ap (λ (fs : List (List ℕ)). estimates_by w.jobs fs v.sizes t.entries kept r) same.files
    ∙ ap (λ (ns : List (Option ℕ)). estimates_by w.jobs w.files ns t.entries kept r) same.sizes
    ∙ ap (λ (es : List TransformationEntry). estimates_by w.jobs w.files w.sizes es kept r) entries

abbrev basis_by : List Job → List TransformationEntry → List ℕ → List (Option SiteId) → Basis
basis_by js es levels sites = record { jobs = js; levels = levels; sites = sites; entries = es }

basis_same : (v w : Workflow) (levels : List ℕ) (sites : List (Option SiteId)) (t u : TransformationCatalog) → v.jobs ≡ w.jobs → t.entries ≡ u.entries → clustering_input v levels sites t ≡ clustering_input w levels sites u
basis_same v w levels sites t u jobs entries =
    ap (λ (js : List Job). basis_by js t.entries levels sites) jobs ∙ ap (λ (es : List TransformationEntry). basis_by w.jobs es levels sites) entries

chosen_over : (c : Selector) (r : PlanRequest) (s t : Survey) (kept : List Bool) (levels : List ℕ) (sites : List (Option SiteId)) → IsGraphOf s.workflow s.graph → IsGraphOf t.workflow t.graph → AreAlike s t
    → AreChosen c r s kept levels sites → AreChosen c r t kept levels sites
chosen_over selectors.RoundRobin r s t kept levels sites one two same h =
    subst (λ (es : List TransformationEntry). IsSelected (selection_by t.workflow.jobs es kept levels r) sites) same.transformations
    (subst (λ (js : List Job). IsSelected (selection_by js s.transformations.entries kept levels r) sites) same.workflow.jobs h)
chosen_over selectors.Heft r s t kept levels sites one two same h = record {
  schedule = h.schedule;
  is_heft = heft_over s.graph t.graph kept (estimates t.workflow kept r t.transformations) h.schedule
      (same_parents s.workflow t.workflow s.graph t.graph same.workflow.jobs same.workflow.pairs one two)
      (same_children s.workflow t.workflow s.graph t.graph same.workflow.jobs same.workflow.pairs one two)
      (subst (λ (e : Estimates). IsHeft s.graph kept e h.schedule) (estimates_same s.workflow t.workflow kept r s.transformations t.transformations same.workflow same.transformations) h.is_heft);
  sites_are = h.sites_are;
}

made_over : (r : PlanRequest) (s t : Survey) (p : Plan) → IsGraphOf s.workflow s.graph → IsGraphOf t.workflow t.graph → AreAlike s t → IsMade r s p → IsMade r t p
made_over r s t p one two same is = record {
  kept = is.kept;
  levels = is.levels;
  are_kept = subst (λ (absent : ℕ → Bool). AreKept absent t.workflow is.kept) (same_absent s.workflow t.workflow s.replicas.entries t.replicas.entries r.force same.workflow.files same.replicas)
      (kept_over (absent_in s.workflow s.replicas.entries r.force) s.workflow t.workflow is.kept same.workflow.jobs is.are_kept);
  are_levels = levels_over s.graph t.graph is.kept is.levels (same_parents s.workflow t.workflow s.graph t.graph same.workflow.jobs same.workflow.pairs one two) is.are_levels;
  sites = is.sites;
  chosen = chosen_over r.selector r s t is.kept is.levels is.sites one two same is.chosen;
  clusters = is.clusters;
  together = subst (λ (b : Basis). AreTogether r.cluster b is.kept is.clusters) (basis_same s.workflow t.workflow is.levels is.sites s.transformations t.transformations same.workflow.jobs same.transformations) is.together;
  bare = is.bare;
  refined = refined_over s.workflow t.workflow is.clusters.parts is.sites s.replicas.entries t.replicas.entries r is.bare same.workflow same.replicas is.refined;
  cleaned_is = is.cleaned_is;
}

pub one_plan_of_alike : (r : PlanRequest) (s t : Survey) (limit : ℕ) (p q : Plan) → IsGraphOf s.workflow s.graph → IsGraphOf t.workflow t.graph → AllByRecursion IsRuntimeInRange r.runtimes → AreAlike s t
    → IsPlanOf r s limit p → IsPlanOf r t limit q → p ≡ q
one_plan_of_alike r s t limit p q one two positive same first second = one_making r t p q two positive (made_over r s t p one two same (made r s limit p first)) (made r t limit q second)
