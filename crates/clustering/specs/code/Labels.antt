-- Beside `specs/Labels.antt`: what the code's own contracts say.
use Rattle.std.specs.Prelude.{ℕ, suc, if◌then◌else◌, List, [], ◌∷◌, nat_eq, Option, Some, None, option_and_then, option_map, slice_get, slice_index_or}
use Rattle.std.specs.List.{list_any}
use Rattle.std.specs.Option.{option_eq, option_or}
use Rattle.values.specs.declared.numbers.JobId.{JobId}
use Rattle.clustering.specs.Basis.{ClusteringInput, site_at}
use Rattle.clustering.specs.Runs.{is_job}
use Rattle.clustering.specs.Labels.{label_at, number_without}

abbrev pub LabelKey : Type 0
LabelKey = Option (List ℕ) × Option ℕ

abbrev pub label_key : ClusteringInput → JobId → LabelKey
label_key b j = (label_at b j.0, number_without (label_at b j.0) j.0)

-- ---- which part holds a job, if one does

abbrev pub holder_from : ℕ → List (List JobId) → JobId → Option ℕ
holder_from n [] j = None
holder_from n (p ∷ ps) j = if list_any (is_job j) p then Some n else holder_from (suc n) ps j

abbrev pub holder : List (List JobId) → JobId → Option ℕ
holder ps j = holder_from 0 ps j

-- what a table says of a job
abbrev pub holder_in : List (Option ℕ) → JobId → Option ℕ
holder_in table j = slice_index_or table j.0 None

-- ---- a label over two sites

-- the first job of a part
abbrev pub first_of : List (List JobId) → Option ℕ → Option JobId
first_of ps part = option_and_then (λ c. slice_get (slice_index_or ps c []) 0) part

-- a job's label, and the first job with it, where that one is at another site
abbrev pub apart_by : ClusteringInput → JobId → Option (List ℕ) → Option JobId → Option (List ℕ × JobId)
apart_by b j None first = None
apart_by b j (Some label) None = None
apart_by b j (Some label) (Some first) = if option_eq nat_eq (site_at b first.0) (site_at b j.0) then None
    else Some (label, first)

abbrev pub apart : ClusteringInput → List (List JobId) → JobId → Option (List ℕ × JobId)
apart b ps j = apart_by b j (label_at b j.0) (first_of ps (holder ps j))

-- the first of some jobs at another site than the first job with its label: the label, that first job, and the job
unfoldable pub first_apart : ClusteringInput → List (List JobId) → List JobId → Option (List ℕ × JobId × JobId)
first_apart b ps [] = None
first_apart b ps (j ∷ js) = option_or
    (option_map (λ (found : List ℕ × JobId). (found.0, found.1, j)) (apart b ps j)) (first_apart b ps js)
