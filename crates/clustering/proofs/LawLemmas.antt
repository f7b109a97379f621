-- The clusters of each mode are parts as tasks need them.
use Rattle.std.proofs.Common.{◌≡◌, ℕ, ◌&&◌, ◌||◌, Bool, cond, append_assoc, true, false, nat_eq, eqb-true, List, [], ◌∷◌, ◌++◌, refl, sym, ap, subst, ◌∙◌}
use Rattle.std.specs.Prelude.{Ok, Option}
use Rattle.std.specs.Option.{option_eq}
use Rattle.std.specs.Cmp.{IsEquivalence, and_equiv, nat_eq_equiv, on_equiv}
use Rattle.std.specs.Cmp.Lexicographic.{options_equiv}
use Rattle.std.proofs.lemmas.Bool.{and_parts}
use Rattle.std.proofs.lemmas.List.{append-nil, map-append}
use Rattle.values.specs.declared.numbers.JobId.{JobId}
use Rattle.values.specs.declared.numbers.SiteId.{SiteId}
use Rattle.workflow_core.specs.declared.clusters.Clusters.{Clusters}
use Rattle.workflow_core.specs.declared.workflow.Workflow.{Workflow}
use Rattle.transformation_catalog.specs.declared.catalog.TransformationCatalog.{TransformationCatalog}
use Rattle.transformation_catalog.specs.Catalog.{same_transformation}
use Rattle.transformation_catalog.specs.code.Key.{sameness}
use Rattle.plan_request.specs.declared.request.ClusterMode.{ClusterMode}
use Rattle.plan_request.specs.declared.request.ClusterMode.TheVariants as modes
use Rattle.digraph.specs.Cycle.{Returns}
use Rattle.dependency_graph.specs.Edges.{is_among}
use Rattle.dependency_graph.specs.Graph.{IsGraphOf, Links}
use Rattle.dependency_graph.specs.Levels.{AreLevels, level}
use Rattle.dependency_graph.specs.Ranking.{HasNoRepeats, IsRanked}
use Rattle.clustering.specs.Basis.{ClusteringInput, clustering_input, same_group, site_at, transformation_at}
use Rattle.clustering.specs.code.Clusters.{ClustersAre}
use Rattle.clustering.specs.code.Condition.{AreParts, leads}
use Rattle.clustering.specs.Gathering.{gathered, with_job, with_jobs}
use Rattle.clustering.specs.Labels.{labels_of, same_label}
use Rattle.clustering.specs.Runs.{run_number, runs_of, same_run}
use Rattle.clustering.specs.code.Singles.{AreSingles}
use Rattle.clustering.specs.Singles.{single, singles}
use Rattle.dependency_graph.specs.Graph.{numbers as job_numbers}
use Rattle.clustering.proofs.ConditionLemmas.{Climbs, Kept, are_parts, before, level_acyclic, ranked_keeps, ranked_rises, rises_along}
use Rattle.clustering.proofs.CyclesLemmas.{label_equal}
use Rattle.clustering.proofs.GatheredLemmas.{gathered_parts}

-- ---- runs

group_equal : (b : ClusteringInput) → IsEquivalence (same_group b)
group_equal b =
    and_equiv
    (and_equiv (on_equiv (λ (j : JobId). level b.levels j.0) nat_eq_equiv) (on_equiv (λ (j : JobId). site_at b j.0) (options_equiv nat_eq_equiv)))
    (on_equiv (λ (j : JobId). transformation_at b j.0) (options_equiv sameness))

run_equal : (b : ClusteringInput) (jobs : List JobId) → IsEquivalence (same_run b jobs)
run_equal b jobs = and_equiv (group_equal b) (on_equiv (run_number b jobs) nat_eq_equiv)

run_level : (b : ClusteringInput) (jobs : List JobId) (i j : JobId) → same_run b jobs i j ≡ true → level b.levels i.0 ≡ level b.levels j.0
run_level b jobs i j h = eqb-true (level b.levels i.0) (level b.levels j.0) (and_parts levels sites (and_parts (levels && sites) transformations (and_parts (same_group b i j) (nat_eq (run_number b jobs i) (run_number b jobs j)) h).0).0).0
  where
    levels : Bool
    levels = nat_eq (level b.levels i.0) (level b.levels j.0)

    sites : Bool
    sites = option_eq nat_eq (site_at b i.0) (site_at b j.0)

    transformations : Bool
    transformations = option_eq same_transformation (transformation_at b i.0) (transformation_at b j.0)

-- parts of jobs that go together only within a level
level_parts : (w : Workflow) (kept : List Bool) (levels : List ℕ) (goes : JobId → JobId → Bool) (js : List JobId) → Climbs w kept levels → IsEquivalence goes → IsRanked kept levels (job_numbers js)
    → ((i j : JobId) → goes i j ≡ true → level levels i.0 ≡ level levels j.0) → AreParts w kept (gathered goes js)
level_parts w kept levels goes js up equal ranked same =
    are_parts w kept levels goes js up equal ranked (level_acyclic w kept levels goes (gathered goes js) same (record {
      up = up;
      equal = equal;
      each = gathered_parts goes (before levels) (Kept kept) js (ranked_keeps kept levels js ranked) (ranked_rises kept levels js ranked);
    }))

run_parts : (w : Workflow) (b : ClusteringInput) (kept : List Bool) (jobs : List JobId) → Climbs w kept b.levels → IsRanked kept b.levels (job_numbers jobs) → AreParts w kept (runs_of b jobs)
unfolding runs_of
run_parts w b kept jobs up ranked = level_parts w kept b.levels (same_run b jobs) jobs up (run_equal b jobs) ranked (run_level b jobs)

-- ---- labels

label_parts : (w : Workflow) (b : ClusteringInput) (kept : List Bool) (jobs : List JobId) → Climbs w kept b.levels → IsRanked kept b.levels (job_numbers jobs) → ((a : ℕ) → Returns (leads w (labels_of b jobs)) a → ⊥)
    → AreParts w kept (labels_of b jobs)
unfolding labels_of
label_parts w b kept jobs up ranked acyclic = are_parts w kept b.levels (same_label b) jobs up (label_equal b) ranked acyclic

-- ---- single jobs

abbrev same_job : JobId → JobId → Bool
same_job i j = nat_eq i.0 j.0

-- a new job is in a part of its own
alone : (js : List JobId) (j : JobId) → is_among j.0 (job_numbers js) ≡ false → with_job same_job (singles js) j ≡ singles js ++ single j ∷ []
alone [] j h = refl
alone (i ∷ js) j h = by (nat_eq j.0 i.0) (nat_eq i.0 j.0) refl (turned j.0 i.0) h (alone js j)
  where
    turned : (a b : ℕ) → nat_eq a b ≡ nat_eq b a
    turned a b = nat_eq_equiv.symm a b

    by : (b c : Bool) → nat_eq j.0 i.0 ≡ b → nat_eq j.0 i.0 ≡ c → (c || is_among j.0 (job_numbers js)) ≡ false → (is_among j.0 (job_numbers js) ≡ false → with_job same_job (singles js) j ≡ singles js ++ single j ∷ [])
        → cond b ((i ∷ j ∷ []) ∷ singles js) (single i ∷ with_job same_job (singles js) j) ≡ single i ∷ singles js ++ single j ∷ []
    by true true e f k rest = absurd cc
    by true false e f k rest = absurd cc
    by false true e f k rest = absurd cc
    by false false e f k rest = ap (λ (ps : List (List JobId)). single i ∷ ps) (rest k)

neither : (a b : Bool) → (a || b) ≡ false → (a ≡ false) × (b ≡ false)
neither true b h = absurd cc
neither false b h = (refl, h)

none : (a b : Bool) → a ≡ false → b ≡ false → (a || b) ≡ false
none true b h k = absurd cc
none false b h k = k

other : (x : ℕ) (done : List JobId) (j : JobId) (later : List JobId) → is_among x (job_numbers (done ++ j ∷ later)) ≡ false → nat_eq j.0 x ≡ false
other x [] j later h = (neither (nat_eq j.0 x) (is_among x (job_numbers later)) h).0
other x (i ∷ done) j later h = other x done j later (neither (nat_eq i.0 x) (is_among x (job_numbers (done ++ j ∷ later))) h).1

is_new : (done : List JobId) (j : JobId) (later : List JobId) → HasNoRepeats (job_numbers (done ++ j ∷ later)) → is_among j.0 (job_numbers done) ≡ false
is_new [] j later once = refl
is_new (i ∷ done) j later once = none (nat_eq i.0 j.0) (is_among j.0 (job_numbers done)) (nat_eq_equiv.symm i.0 j.0 ∙ other i.0 done j later once.0) (is_new done j later once.1)

one_by_one : (done later : List JobId) → HasNoRepeats (job_numbers (done ++ later)) → with_jobs same_job (singles done) later ≡ singles (done ++ later)
one_by_one done [] once = ap singles (sym (append-nil done))
one_by_one done (j ∷ later) once =
    ap (λ (ps : List (List JobId)). with_jobs same_job ps later) (alone done j (is_new done j later once) ∙ sym (map-append single done (j ∷ [])))
    ∙ (one_by_one (done ++ j ∷ []) later (subst (λ (js : List JobId). HasNoRepeats (job_numbers js)) (sym (append_assoc done (j ∷ []) later)) once)
    ∙ ap singles (append_assoc done (j ∷ []) later))

all_singles : (js : List JobId) → HasNoRepeats (job_numbers js) → gathered same_job js ≡ singles js
unfolding gathered
all_singles js once = one_by_one [] js once

single_parts : (w : Workflow) (kept : List Bool) (levels : List ℕ) (js : List JobId) → Climbs w kept levels → IsRanked kept levels (job_numbers js) → AreParts w kept (singles js)
single_parts w kept levels js up ranked =
    subst (AreParts w kept) (all_singles js ranked.once)
    (level_parts w kept levels same_job js up (on_equiv (λ (j : JobId). j.0) nat_eq_equiv) ranked (λ i j h. ap (level levels) (eqb-true i.0 j.0 h)))

-- ---- each mode

singles_are : (w : Workflow) (kept : List Bool) (levels : List ℕ) (c : Clusters) → Climbs w kept levels → AreSingles kept levels c → AreParts w kept c.parts
singles_are w kept levels c up h = subst (AreParts w kept) (sym h.parts) (single_parts w kept levels h.jobs up h.ranked)

pub clusters_parts : (mode : ClusterMode) (w : Workflow) (g : Links) (kept : List Bool) (levels : List ℕ) (sites : List (Option SiteId)) (t : TransformationCatalog) (c : Clusters)
    → IsGraphOf w g → AreLevels g kept levels → ClustersAre mode w (clustering_input w levels sites t) kept (Ok c) → AreParts w kept c.parts
clusters_parts modes.Horizontal w g kept levels sites t c graph leveled h =
    subst (AreParts w kept) (sym h.parts) (run_parts w (clustering_input w levels sites t) kept h.jobs (rises_along w g kept levels graph leveled) h.ranked)
clusters_parts modes.Label w g kept levels sites t c graph leveled h =
    subst (AreParts w kept) (sym h.parts) (label_parts w (clustering_input w levels sites t) kept h.jobs (rises_along w g kept levels graph leveled) h.ranked h.acyclic)
clusters_parts mode w g kept levels sites t c graph leveled h = singles_are w kept levels c (rises_along w g kept levels graph leveled) h
