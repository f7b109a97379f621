-- The clusters of the kept jobs are one.
use Rattle.std.proofs.Common.{◌≡◌, ℕ, Bool, ltb, List, sym, ap, ◌∙◌}
use Rattle.std.specs.Prelude.{Ok}
use Rattle.values.specs.declared.numbers.JobId.{JobId}
use Rattle.workflow_core.specs.declared.clusters.Clusters.{Clusters}
use Rattle.workflow_core.specs.declared.workflow.Workflow.{Workflow}
use Rattle.plan_request.specs.declared.request.ClusterMode.{ClusterMode}
use Rattle.plan_request.specs.declared.request.ClusterMode.TheVariants as modes
use Rattle.dependency_graph.specs.Levels.{level}
use Rattle.dependency_graph.specs.Ranking.{IsRanked, comes_before}
use Rattle.clustering.specs.Basis.{ClusteringInput}
use Rattle.clustering.specs.code.Clusters.{ClustersAre}
use Rattle.clustering.specs.Labels.{labels_of}
use Rattle.clustering.specs.Runs.{runs_of}
use Rattle.dependency_graph.specs.Graph.{numbers as job_numbers}
use Rattle.clustering.specs.Singles.{singles}
use Rattle.planning_law.proofs.ListsLemmas.{NeverBoth, never_rising, one_jobs, one_order, told}

never_before : (levels : List ℕ) → NeverBoth (comes_before levels)
never_before levels a b one two = never_rising (level levels a) (level levels b) a b (told (ltb (level levels a) (level levels b)) (level levels a) (level levels b) a b one) (told (ltb (level levels b) (level levels a)) (level levels b) (level levels a) b a two)

-- the kept jobs in order of level and number
one_ranked : (kept : List Bool) (levels : List ℕ) (xs ys : List JobId) → IsRanked kept levels (job_numbers xs) → IsRanked kept levels (job_numbers ys) → xs ≡ ys
one_ranked kept levels xs ys first second = one_jobs xs ys (one_order (comes_before levels) (never_before levels) (job_numbers xs) (job_numbers ys) first.rising second.rising (λ a. first.kept_ones a ∙ sym (second.kept_ones a)))

abbrev of_parts : List (List JobId) → Clusters
of_parts parts = record { parts = parts }

by_parts : (c d : Clusters) → c.parts ≡ d.parts → c ≡ d
by_parts c d same = ap of_parts same

-- how a mode puts jobs together
abbrev pub put_together : ClusterMode → ClusteringInput → List JobId → List (List JobId)
put_together modes.None b js = singles js
put_together modes.Horizontal b js = runs_of b js
put_together modes.Label b js = labels_of b js

-- these are the kept jobs, put together in order of level and number
pub record AreTogether (mode : ClusterMode) (b : ClusteringInput) (kept : List Bool) (c : Clusters) : Type 0 where
  pub jobs : List JobId
  pub ranked : IsRanked kept b.levels (job_numbers jobs)
  pub parts : c.parts ≡ put_together mode b jobs

pub are_together : (mode : ClusterMode) (w : Workflow) (b : ClusteringInput) (kept : List Bool) (c : Clusters) → ClustersAre mode w b kept (Ok c) → AreTogether mode b kept c
are_together modes.None w b kept c are = record { jobs = are.jobs; ranked = are.ranked; parts = are.parts }
are_together modes.Horizontal w b kept c are = record { jobs = are.jobs; ranked = are.ranked; parts = are.parts }
are_together modes.Label w b kept c are = record { jobs = are.jobs; ranked = are.ranked; parts = are.parts }

pub one_clustering : (mode : ClusterMode) (b : ClusteringInput) (kept : List Bool) (c d : Clusters) → AreTogether mode b kept c → AreTogether mode b kept d → c ≡ d
one_clustering mode b kept c d one two = by_parts c d (one.parts ∙ ap (put_together mode b) (one_ranked kept b.levels one.jobs two.jobs one.ranked two.ranked) ∙ sym two.parts)
