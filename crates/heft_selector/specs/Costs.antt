-- How long jobs run, and how long files take from one job to another, by a request.
use Rattle.std.specs.Prelude.{ℕ, ◌+◌, ◌-◌, ◌/◌, ◌&&◌, Bool, if◌then◌else◌, List, [], ◌∷◌, map, Option, None, unwrap_or, slice_index_or}
use Rattle.std.specs.Str.{bytes_eq}
use Rattle.workflow_core.specs.declared.workflow.Workflow.{Workflow}
use Rattle.workflow_core.specs.declared.workflow.Job.{Job}
use Rattle.plan_request.specs.declared.request.Execution.{Execution}
use Rattle.plan_request.specs.declared.request.PlanRequest.{PlanRequest}
use Rattle.plan_request.specs.declared.request.Runtime.{Runtime}
use Rattle.plan_request.specs.FileSizes.{declared_sizes}
use Rattle.dependency_graph.specs.Edges.{is_among, read_by, written_by}

-- ---- time

abbrev pub is_entry_for : List ℕ → List ℕ → Runtime → Bool
is_entry_for transformation site t =
    bytes_eq t.transformation transformation && bytes_eq t.site site

-- the seconds of the first entry for a transformation and a site, else 1
abbrev pub seconds : List Runtime → List ℕ → List ℕ → ℕ
seconds [] transformation site = 1
seconds (t ∷ ts) transformation site =
    if is_entry_for transformation site t then t.seconds else seconds ts transformation site

abbrev pub transformation_name : Job → List ℕ
transformation_name j = j.transformation.name

-- the name of a job's transformation, by its number
abbrev pub name_at : Workflow → ℕ → List ℕ
name_at w a = slice_index_or (map transformation_name w.jobs) a []

-- how long job a runs at site s
abbrev pub time : Workflow → PlanRequest → ℕ → ℕ → ℕ
time w r a s = seconds r.runtimes (name_at w a)
    (slice_index_or (map (λ (e : Execution). e.site) r.execute) s [])

-- ---- moves

-- the declared size of a file, 0 where none is
abbrev pub size_at : List (Option ℕ) → ℕ → ℕ
size_at sizes f = unwrap_or (slice_index_or sizes f None) 0

-- the bytes of those of some files that are read
abbrev pub bytes_read : List (Option ℕ) → List ℕ → List ℕ → ℕ
bytes_read sizes read [] = 0
bytes_read sizes read (f ∷ fs) =
    (if is_among f read then size_at sizes f else 0) + bytes_read sizes read fs

-- so many bytes at a rate, in seconds, rounded up
abbrev pub seconds_for : ℕ → ℕ → ℕ
seconds_for n rate = (n + (rate - 1)) / rate

-- how long the files take from job a to job b
abbrev pub move : Workflow → PlanRequest → ℕ → ℕ → ℕ
move w r a b = seconds_for
    (bytes_read (declared_sizes r w.files w.sizes) (read_by w b) (written_by w a)) r.rate
