-- Each kept job is in a cluster.
use Rattle.std.proofs.Common.{◌≡◌, ℕ, Bool, true, false, cond, eqb, eqb-true, List, [], ◌∷◌, ◌++◌, sym, ap, ◌∙◌}
use Rattle.std.specs.Prelude.{Ok}
use Rattle.std.specs.List.{list_any}
use Rattle.values.specs.declared.numbers.JobId.{JobId}
use Rattle.workflow_core.specs.declared.clusters.Clusters.{Clusters}
use Rattle.workflow_core.specs.declared.workflow.Workflow.{Workflow}
use Rattle.plan_request.specs.declared.request.ClusterMode.{ClusterMode}
use Rattle.plan_request.specs.declared.request.ClusterMode.TheVariants as mode
use Rattle.dependency_graph.specs.Edges.{is_among}
use Rattle.dependency_graph.specs.Levels.{is_kept}
use Rattle.dependency_graph.proofs.TestLemmas.{itself, or_case, or_left, or_right}
use Rattle.clustering.specs.Basis.{ClusteringInput}
use Rattle.clustering.specs.code.Clusters.{ClustersAre}
use Rattle.clustering.specs.Gathering.{gathered, is_of_part, with_job, with_jobs}
use Rattle.clustering.specs.Labels.{labels_of, same_label}
use Rattle.clustering.specs.Runs.{runs_of, same_run}
use Rattle.clustering.specs.code.Singles.{AreSingles}
use Rattle.clustering.specs.Singles.{single, singles}
use Rattle.dependency_graph.specs.Graph.{numbers as job_numbers}

-- a job is in one of the parts
abbrev pub is_in : ℕ → List (List JobId) → Bool
is_in a ps = list_any (λ (js : List JobId). is_among a (job_numbers js)) ps

in_single : (a : ℕ) (js : List JobId) → is_among a (job_numbers js) ≡ true → is_in a (singles js) ≡ true
in_single a [] h = absurd cc
in_single a (j ∷ js) h = or_case (eqb j.0 a) (is_among a (job_numbers js)) h
    (λ e. or_left (is_among a (job_numbers (single j))) (is_in a (singles js)) (or_left (eqb j.0 a) false e))
    (λ e. or_right (is_among a (job_numbers (single j))) (is_in a (singles js)) (in_single a js e))

among_longer : (a : ℕ) (p : List JobId) (j : JobId) → is_among a (job_numbers p) ≡ true → is_among a (job_numbers (p ++ j ∷ [])) ≡ true
among_longer a [] j h = absurd cc
among_longer a (i ∷ p) j h = or_case (eqb i.0 a) (is_among a (job_numbers p)) h
    (λ e. or_left (eqb i.0 a) (is_among a (job_numbers (p ++ j ∷ []))) e)
    (λ e. or_right (eqb i.0 a) (is_among a (job_numbers (p ++ j ∷ []))) (among_longer a p j e))

among_last : (p : List JobId) (j : JobId) → is_among j.0 (job_numbers (p ++ j ∷ [])) ≡ true
among_last [] j = or_left (eqb j.0 j.0) false (itself j.0)
among_last (i ∷ p) j = or_right (eqb i.0 j.0) (is_among j.0 (job_numbers (p ++ j ∷ []))) (among_last p j)

stays_in : (goes : JobId → JobId → Bool) (a : ℕ) (j : JobId) (ps : List (List JobId)) → is_in a ps ≡ true → is_in a (with_job goes ps j) ≡ true
stays_in goes a j [] h = absurd cc
stays_in goes a j (p ∷ ps) h = by (is_of_part goes j p) (λ e. stays_in goes a j ps e)
  where
    by : (b : Bool) → (is_in a ps ≡ true → is_in a (with_job goes ps j) ≡ true) → is_in a (cond b ((p ++ j ∷ []) ∷ ps) (p ∷ with_job goes ps j)) ≡ true
    by true rest = or_case (is_among a (job_numbers p)) (is_in a ps) h
        (λ e. or_left (is_among a (job_numbers (p ++ j ∷ []))) (is_in a ps) (among_longer a p j e))
        (λ e. or_right (is_among a (job_numbers (p ++ j ∷ []))) (is_in a ps) e)
    by false rest = or_case (is_among a (job_numbers p)) (is_in a ps) h
        (λ e. or_left (is_among a (job_numbers p)) (is_in a (with_job goes ps j)) e)
        (λ e. or_right (is_among a (job_numbers p)) (is_in a (with_job goes ps j)) (rest e))

comes_in : (goes : JobId → JobId → Bool) (j : JobId) (ps : List (List JobId)) → is_in j.0 (with_job goes ps j) ≡ true
comes_in goes j [] = or_left (is_among j.0 (job_numbers (j ∷ []))) false (or_left (eqb j.0 j.0) false (itself j.0))
comes_in goes j (p ∷ ps) = by (is_of_part goes j p) (comes_in goes j ps)
  where
    by : (b : Bool) → is_in j.0 (with_job goes ps j) ≡ true → is_in j.0 (cond b ((p ++ j ∷ []) ∷ ps) (p ∷ with_job goes ps j)) ≡ true
    by true rest = or_left (is_among j.0 (job_numbers (p ++ j ∷ []))) (is_in j.0 ps) (among_last p j)
    by false rest = or_right (is_among j.0 (job_numbers p)) (is_in j.0 (with_job goes ps j)) rest

all_stay : (goes : JobId → JobId → Bool) (a : ℕ) (js : List JobId) (ps : List (List JobId)) → is_in a ps ≡ true → is_in a (with_jobs goes ps js) ≡ true
all_stay goes a [] ps h = h
all_stay goes a (j ∷ js) ps h = all_stay goes a js (with_job goes ps j) (stays_in goes a j ps h)

all_come : (goes : JobId → JobId → Bool) (a : ℕ) (js : List JobId) (ps : List (List JobId)) → is_among a (job_numbers js) ≡ true → is_in a (with_jobs goes ps js) ≡ true
all_come goes a [] ps h = absurd cc
all_come goes a (j ∷ js) ps h = or_case (eqb j.0 a) (is_among a (job_numbers js)) h
    (λ e. all_stay goes a js (with_job goes ps j) (ap (λ (n : ℕ). is_in n (with_job goes ps j)) (sym (eqb-true j.0 a e)) ∙ comes_in goes j ps))
    (λ e. all_come goes a js (with_job goes ps j) e)

in_gathered : (goes : JobId → JobId → Bool) (a : ℕ) (js : List JobId) → is_among a (job_numbers js) ≡ true → is_in a (gathered goes js) ≡ true
unfolding gathered
in_gathered goes a js h = all_come goes a js [] h

in_run : (b : ClusteringInput) (a : ℕ) (js : List JobId) → is_among a (job_numbers js) ≡ true → is_in a (runs_of b js) ≡ true
unfolding runs_of
in_run b a js h = in_gathered (same_run b js) a js h

in_label : (b : ClusteringInput) (a : ℕ) (js : List JobId) → is_among a (job_numbers js) ≡ true → is_in a (labels_of b js) ≡ true
unfolding labels_of
in_label b a js h = in_gathered (same_label b) a js h

single_in : (kept : List Bool) (levels : List ℕ) (c : Clusters) → AreSingles kept levels c → (a : ℕ) → is_kept kept a ≡ true → is_in a c.parts ≡ true
single_in kept levels c are a h = ap (is_in a) are.parts ∙ in_single a are.jobs (are.ranked.kept_ones a ∙ h)

pub kept_clustered : (m : ClusterMode) (w : Workflow) (b : ClusteringInput) (kept : List Bool) (c : Clusters) → ClustersAre m w b kept (Ok c) → (a : ℕ) → is_kept kept a ≡ true → is_in a c.parts ≡ true
kept_clustered mode.Horizontal w b kept c are a h = ap (is_in a) are.parts ∙ in_run b a are.jobs (are.ranked.kept_ones a ∙ h)
kept_clustered mode.Label w b kept c are a h = ap (is_in a) are.parts ∙ in_label b a are.jobs (are.ranked.kept_ones a ∙ h)
kept_clustered m w b kept c are a h = single_in kept b.levels c are a h
