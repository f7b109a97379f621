-- Jobs put together with those that they go with.
use Rattle.std.specs.Prelude.{Bool, false, if◌then◌else◌, List, [], ◌∷◌, ◌++◌}
use Rattle.values.specs.declared.numbers.JobId.{JobId}

-- a job goes with the first one of a part
abbrev pub is_of_part : (JobId → JobId → Bool) → JobId → List JobId → Bool
is_of_part goes j [] = false
is_of_part goes j (first ∷ js) = goes j first

-- the parts with one job more: in the part whose first job it goes with, else in a new one at the end
abbrev pub with_job : (JobId → JobId → Bool) → List (List JobId) → JobId → List (List JobId)
with_job goes [] j = (j ∷ []) ∷ []
with_job goes (p ∷ ps) j = if is_of_part goes j p then (p ++ j ∷ []) ∷ ps else p ∷ with_job goes ps j

abbrev pub with_jobs : (JobId → JobId → Bool) → List (List JobId) → List JobId → List (List JobId)
with_jobs goes ps [] = ps
with_jobs goes ps (j ∷ js) = with_jobs goes (with_job goes ps j) js

-- the parts of some jobs, each in the jobs' order, and in order of their first jobs
unfoldable pub gathered : (JobId → JobId → Bool) → List JobId → List (List JobId)
gathered goes js = with_jobs goes [] js
