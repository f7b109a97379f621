-- Beside `specs/Runs.antt`: what the code's own contracts say.
use Rattle.std.specs.Prelude.{ℕ, ◌<◌, ◌≤◌, List, length}
use Rattle.std.specs.List.{All}
use Rattle.values.specs.declared.numbers.JobId.{JobId}
use Rattle.dependency_graph.specs.Ranking.{HasNoRepeats}
use Rattle.dependency_graph.specs.Graph.{numbers as job_numbers}

-- few jobs, below the count, none of them twice
pub record IsGroup (count : ℕ) (js : List JobId) : Type 0 where
  pub few : length js ≤ 10000
  pub once : HasNoRepeats (job_numbers js)
  pub below : All (λ (j : JobId). j.0 < count) js
