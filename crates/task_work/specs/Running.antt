-- What jobs make of what stands at the files, one after the other.
use Rattle.std.specs.Prelude.{◌≡◌, ℕ, true, List, length, map, is_some, Option, Some, None, option_and_then, Result, Ok, Err}
use Rattle.values.specs.Apply.{Apply, all_of, part}
use Rattle.values.specs.declared.numbers.JobId.{JobId}
use Rattle.outside.specs.code.Counts.{Rose}
use Rattle.plan_core.specs.declared.plan.PlanJob.{PlanJob}
use Rattle.plan_core.specs.Carried.{after_job, after_jobs}
use Rattle.plan_core.specs.Kinds.{jobs_make}
use Rattle.plan_core.specs.Numbers.{has, or_else}
use Rattle.plan_core.specs.Words.{file_numbers, inputs, job_numbers, tool_outputs as made, outputs}
use Rattle.plan_core.specs.code.Declined.{declined_among}
use Rattle.run_record.specs.declared.entry.Cause.{Cause}
use Rattle.run_record.specs.declared.entry.Cause.TheVariants.{Declined, ToolFailed, Memory}

-- what a job's tool makes of these inputs
abbrev pub made_by : Apply → PlanJob → List (List ℕ) → Option (List (List ℕ))
made_by apply job ins = apply job.tool job.arguments ins (length job.outputs)

-- Why job j made nothing. `makes_` is what its tool makes.
abbrev pub IsToolCause : Option (List (List ℕ)) → ℕ → ℕ → ℕ → Cause → Type 0
IsToolCause makes_ j before later (Declined k) = (makes_ ≡ None) × (k.0 ≡ j)
IsToolCause makes_ j before later (ToolFailed k) = Rose before later × (k.0 ≡ j)
IsToolCause makes_ j before later Memory = Unit {0}
IsToolCause makes_ j before later _ = ⊥

-- the outputs were made, and stand at their files; v stood at the files before, and w stands after
pub record Places (makes_ : Option (List (List ℕ))) (os : List ℕ) (v w : ℕ → Option (List ℕ)) : Type 0 where
  pub outs : List (List ℕ)
  pub is : makes_ ≡ Some outs
  pub many : length outs ≡ length os
  pub at : (f : ℕ) → w f ≡ or_else (part f os outs) (v f)

abbrev pub RunsTool : Apply → PlanJob → ℕ → List (List ℕ) → (ℕ → Option (List ℕ)) → (ℕ → Option (List ℕ)) → ℕ
    → ℕ → Result (Unit {0}) Cause → Type 0
RunsTool apply job j ins v w before later (Ok u) =
    Places (made_by apply job ins) (file_numbers job.outputs) v w
RunsTool apply job j ins v w before later (Err cause) =
    IsToolCause (made_by apply job ins) j before later cause

-- what job j makes of what stands at its inputs
abbrev pub made_of : Apply → List PlanJob → ℕ → (ℕ → Option (List ℕ)) → Option (List (List ℕ))
made_of apply jobs j v = option_and_then (made apply jobs j) (all_of (map v (inputs jobs j)))

-- the job made something, which stands at its files
pub record RanJob (apply : Apply) (jobs : List PlanJob) (j : ℕ) (v w : ℕ → Option (List ℕ)) : Type 0 where
  pub made : is_some (made_of apply jobs j v) ≡ true
  pub at : (f : ℕ) → w f ≡ after_job apply jobs j v f
  pub there : (f : ℕ) → has (outputs jobs j) f ≡ true → is_some (w f) ≡ true

abbrev pub RunsJob : Apply → List PlanJob → ℕ → (ℕ → Option (List ℕ)) → (ℕ → Option (List ℕ)) → ℕ → ℕ
    → Result (Unit {0}) Cause → Type 0
RunsJob apply jobs j v w before later (Ok u) = RanJob apply jobs j v w
RunsJob apply jobs j v w before later (Err cause) = IsToolCause (made_of apply jobs j v) j before later cause

-- several jobs, one by one
pub record RanJobs (apply : Apply) (jobs : List PlanJob) (js : List JobId)
    (v w : ℕ → Option (List ℕ)) : Type 0 where
  pub none : declined_among apply jobs js v ≡ None
  pub at : (f : ℕ) → w f ≡ after_jobs apply jobs js v f
  pub there : (f : ℕ) → jobs_make jobs js f ≡ true → is_some (w f) ≡ true

abbrev pub RunsJobs : Apply → List PlanJob → List JobId → (ℕ → Option (List ℕ)) → (ℕ → Option (List ℕ)) → ℕ
    → ℕ → Result (Unit {0}) Cause → Type 0
RunsJobs apply jobs js v w before later (Ok u) = RanJobs apply jobs js v w
RunsJobs apply jobs js v w before later (Err (Declined j)) = (declined_among apply jobs js v ≡ Some j.0)
    × (has (job_numbers js) j.0 ≡ true)
RunsJobs apply jobs js v w before later (Err (ToolFailed j)) = Rose before later
    × (has (job_numbers js) j.0 ≡ true)
RunsJobs apply jobs js v w before later (Err Memory) = Unit {0}
RunsJobs apply jobs js v w before later (Err _) = ⊥
