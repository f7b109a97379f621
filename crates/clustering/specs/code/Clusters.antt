-- The clusters of each mode, or the first fault.
use Rattle.std.specs.Prelude.{◌≡◌, ℕ, Bool, List, Some, None, Result, Ok, Err}
use Rattle.values.specs.declared.numbers.JobId.{JobId}
use Rattle.workflow_core.specs.declared.clusters.Clusters.{Clusters}
use Rattle.workflow_core.specs.declared.workflow.Workflow.{Workflow}
use Rattle.plan_request.specs.declared.request.ClusterMode.{ClusterMode}
use Rattle.plan_request.specs.declared.request.ClusterMode.TheVariants.{Horizontal, Label}
use Rattle.digraph.specs.Cycle.{Returns}
use Rattle.dependency_graph.specs.code.Built.{id_of}
use Rattle.dependency_graph.specs.Ranking.{IsRanked}
use Rattle.dependency_graph.specs.Graph.{numbers as job_numbers}
use Rattle.clustering.specs.declared.fault.ClusterFault.{ClusterFault}
use Rattle.clustering.specs.declared.fault.ClusterFault.TheVariants.{BadNumber, ClusterCycle, LabelOverSites, Memory}
use Rattle.clustering.specs.Basis.{ClusteringInput}
use Rattle.clustering.specs.code.Basis.{first_bad}
use Rattle.clustering.specs.code.Condition.{leads}
use Rattle.clustering.specs.code.Cycles.{IsPartCycle}
use Rattle.clustering.specs.code.Labels.{first_apart}
use Rattle.clustering.specs.Labels.{labels_of}
use Rattle.clustering.specs.Runs.{runs_of}
use Rattle.clustering.specs.code.Singles.{AreSingles}

-- The runs of the kept jobs, none of which has a bad number.
pub record AreRuns (b : ClusteringInput) (kept : List Bool) (c : Clusters) : Type 0 where
  pub jobs : List JobId
  pub ranked : IsRanked kept b.levels (job_numbers jobs)
  pub fine : first_bad b jobs ≡ None
  pub parts : c.parts ≡ runs_of b jobs

-- the first of these jobs with a bad number, and the key
pub record IsFirstBad (w : Workflow) (b : ClusteringInput) (jobs : List JobId) (id key : List ℕ) : Type 0 where
  pub job : JobId
  pub first : first_bad b jobs ≡ Some (job, key)
  pub id_is : id ≡ id_of w job.0

-- the first kept job with a bad number
pub record IsBadNumber (w : Workflow) (b : ClusteringInput) (kept : List Bool) (id key : List ℕ) : Type 0 where
  pub jobs : List JobId
  pub ranked : IsRanked kept b.levels (job_numbers jobs)
  pub bad : IsFirstBad w b jobs id key

abbrev pub ChecksNumbers : Workflow → ClusteringInput → List JobId → Result (Unit {0}) ClusterFault → Type 0
ChecksNumbers w b jobs (Ok u) = first_bad b jobs ≡ None
ChecksNumbers w b jobs (Err Memory) = Unit {0}
ChecksNumbers w b jobs (Err (BadNumber id key)) = IsFirstBad w b jobs id key
ChecksNumbers w b jobs (Err fault) = ⊥

abbrev pub RunsAre : Workflow → ClusteringInput → List Bool → Result Clusters ClusterFault → Type 0
RunsAre w b kept (Ok c) = AreRuns b kept c
RunsAre w b kept (Err Memory) = Unit {0}
RunsAre w b kept (Err (BadNumber id key)) = IsBadNumber w b kept id key
RunsAre w b kept (Err fault) = ⊥

-- The kept jobs of each label, none of which is over two sites, and single jobs; no parts lead round.
pub record AreLabels (w : Workflow) (b : ClusteringInput) (kept : List Bool) (c : Clusters) : Type 0 where
  pub jobs : List JobId
  pub ranked : IsRanked kept b.levels (job_numbers jobs)
  pub one_site : first_apart b (labels_of b jobs) jobs ≡ None
  pub acyclic : (a : ℕ) → Returns (leads w (labels_of b jobs)) a → ⊥
  pub parts : c.parts ≡ labels_of b jobs

-- the first of these jobs at another site than the first job with its label
pub record IsFirstApart (w : Workflow) (b : ClusteringInput) (ps : List (List JobId)) (jobs : List JobId)
    (label one two : List ℕ) : Type 0 where
  pub first : JobId
  pub job : JobId
  pub apart : first_apart b ps jobs ≡ Some (label, first, job)
  pub one_is : one ≡ id_of w first.0
  pub two_is : two ≡ id_of w job.0

-- the first kept job at another site than the first kept job with its label
pub record IsOverSites (w : Workflow) (b : ClusteringInput) (kept : List Bool) (label one two : List ℕ) : Type 0 where
  pub jobs : List JobId
  pub ranked : IsRanked kept b.levels (job_numbers jobs)
  pub apart : IsFirstApart w b (labels_of b jobs) jobs label one two

-- No label is over two sites, and these are the ids of the named cycle.
pub record IsClusterCycle (w : Workflow) (b : ClusteringInput) (kept : List Bool) (ids : List (List ℕ)) : Type 0 where
  pub jobs : List JobId
  pub ranked : IsRanked kept b.levels (job_numbers jobs)
  pub one_site : first_apart b (labels_of b jobs) jobs ≡ None
  pub cycle : IsPartCycle w (labels_of b jobs) ids

abbrev pub ChecksSites : Workflow → ClusteringInput → List (List JobId) → List JobId → Result (Unit {0}) ClusterFault
    → Type 0
ChecksSites w b ps jobs (Ok u) = first_apart b ps jobs ≡ None
ChecksSites w b ps jobs (Err Memory) = Unit {0}
ChecksSites w b ps jobs (Err (LabelOverSites label one two)) = IsFirstApart w b ps jobs label one two
ChecksSites w b ps jobs (Err fault) = ⊥

abbrev pub LabelsAre : Workflow → ClusteringInput → List Bool → Result Clusters ClusterFault → Type 0
LabelsAre w b kept (Ok c) = AreLabels w b kept c
LabelsAre w b kept (Err Memory) = Unit {0}
LabelsAre w b kept (Err (LabelOverSites label one two)) = IsOverSites w b kept label one two
LabelsAre w b kept (Err (ClusterCycle ids)) = IsClusterCycle w b kept ids
LabelsAre w b kept (Err fault) = ⊥

abbrev pub SinglesAre : ClusteringInput → List Bool → Result Clusters ClusterFault → Type 0
SinglesAre b kept (Ok c) = AreSingles kept b.levels c
SinglesAre b kept (Err Memory) = Unit {0}
SinglesAre b kept (Err fault) = ⊥

-- Each kept job is a cluster by itself, unless they are put together in runs or by label. Want of memory is free.
abbrev pub ClustersAre : ClusterMode → Workflow → ClusteringInput → List Bool → Result Clusters ClusterFault → Type 0
ClustersAre Horizontal w b kept answer = RunsAre w b kept answer
ClustersAre Label w b kept answer = LabelsAre w b kept answer
ClustersAre mode w b kept answer = SinglesAre b kept answer
