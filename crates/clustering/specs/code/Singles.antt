-- Beside `specs/Singles.antt`: what the code's own contracts say.
use Rattle.std.specs.Prelude.{◌≡◌, ℕ, Bool, List}
use Rattle.values.specs.declared.numbers.JobId.{JobId}
use Rattle.workflow_core.specs.declared.clusters.Clusters.{Clusters}
use Rattle.dependency_graph.specs.Graph.{numbers as job_numbers}
use Rattle.dependency_graph.specs.Ranking.{IsRanked}
use Rattle.clustering.specs.Singles.{singles}

-- A cluster for each kept job, in order of (level, number).
pub record AreSingles (kept : List Bool) (levels : List ℕ) (c : Clusters) : Type 0 where
  pub jobs : List JobId
  pub ranked : IsRanked kept levels (job_numbers jobs)
  pub parts : c.parts ≡ singles jobs
