-- Jobs of one label, and the first that is at another site than the first job with its label.
use Rattle.std.specs.Prelude.{ℕ, ◌&&◌, Bool, List, nat_eq, Option, Some, None, option_and_then, slice_get}
use Rattle.std.specs.Option.{option_eq}
use Rattle.std.specs.Str.{bytes_eq}
use Rattle.values.specs.declared.numbers.JobId.{JobId}
use Rattle.workflow_core.specs.declared.workflow.Job.{Job}
use Rattle.clustering.specs.Basis.{ClusteringInput}
use Rattle.clustering.specs.Gathering.{gathered}

abbrev pub label_at : ClusteringInput → ℕ → Option (List ℕ)
label_at b a = option_and_then (λ (j : Job). j.label) (slice_get b.jobs a)

-- the number of a job without a label
abbrev pub number_without : Option (List ℕ) → ℕ → Option ℕ
number_without None a = Some a
number_without (Some label) a = None

-- they have one label, or they are one job without a label
abbrev pub same_label : ClusteringInput → JobId → JobId → Bool
same_label b i j =
    option_eq bytes_eq (label_at b i.0) (label_at b j.0)
    && option_eq nat_eq (number_without (label_at b i.0) i.0) (number_without (label_at b j.0) j.0)

-- the jobs of each label, and single jobs
unfoldable pub labels_of : ClusteringInput → List JobId → List (List JobId)
labels_of b jobs = gathered (same_label b) jobs
