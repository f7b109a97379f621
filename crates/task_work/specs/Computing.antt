-- What the jobs of a Run make of the bytes that it reads.
use Rattle.std.specs.Prelude.{◌≡◌, ℕ, true, List, [], map, Option, Some, None, Result, Ok, Err, Vec}
use Rattle.std.specs.declared.alloc.Global.{Global}
use Rattle.values.specs.Apply.{Apply, part}
use Rattle.values.specs.declared.numbers.JobId.{JobId}
use Rattle.outside.specs.code.Counts.{Rose}
use Rattle.plan_core.specs.declared.plan.Plan.{Plan}
use Rattle.plan_core.specs.declared.plan.TaskKind.{TaskKind}
use Rattle.plan_core.specs.declared.plan.TaskKind.TheVariants.{Run}
use Rattle.plan_core.specs.Carried.{after_jobs}
use Rattle.plan_core.specs.Words.{kind, reads, writes}
use Rattle.plan_core.specs.Names.{pair_file}
use Rattle.plan_core.specs.code.Declined.{declined, declined_among}
use Rattle.run_record.specs.declared.entry.Cause.{Cause}
use Rattle.run_record.specs.declared.entry.Cause.TheVariants.{Declined, ToolFailed, Memory}
use Rattle.lease_rules.specs.Legal.{has_job}

-- the jobs of a Run
abbrev pub jobs_in : Option TaskKind → List JobId
jobs_in (Some (Run s js)) = js
jobs_in _ = []

-- the files of pairs; the bytes of each file, where these were read of the task's reads
abbrev pub files_of : Plan → List ℕ → List ℕ
files_of p qs = map (pair_file p) qs

abbrev pub given : Plan → ℕ → List (List ℕ) → ℕ → Option (List ℕ)
given p t blobs f = part f (files_of p (reads p t)) blobs

-- what stands at each file once all jobs of the task are done
abbrev pub computed : Apply → Plan → ℕ → List (List ℕ) → ℕ → Option (List ℕ)
computed apply p t blobs = after_jobs apply p.jobs (jobs_in (kind p t)) (given p t blobs)

abbrev pub first_declined : Apply → Plan → ℕ → List (List ℕ) → Option ℕ
first_declined apply p t blobs = declined_among apply p.jobs (jobs_in (kind p t)) (given p t blobs)

-- of these bytes each job of the task makes something, in the end these outputs
abbrev pub Makes : Apply → Plan → ℕ → List (List ℕ) → List (List ℕ) → Type 0
Makes apply p t blobs outs = (map (computed apply p t blobs) (files_of p (writes p t)) ≡ map Some outs)
    × (first_declined apply p t blobs ≡ None)

-- What the computing of a Run answers, of the bytes that were read, with the tool's count before and after: one output for
-- each of its writes, in order; the first job on whose inputs the tool makes nothing; a job at which the tool failed; or
-- want of memory.
abbrev pub Computes : Apply → Plan → ℕ → List (List ℕ) → ℕ → ℕ → Result (Vec (List ℕ) Global) Cause → Type 0
Computes apply p t blobs before later (Ok outs) = Makes apply p t blobs outs.items
Computes apply p t blobs before later (Err (Declined j)) = (first_declined apply p t blobs ≡ Some j.0)
    × (has_job (kind p t) j.0 ≡ true)
Computes apply p t blobs before later (Err (ToolFailed j)) = Rose before later
    × (has_job (kind p t) j.0 ≡ true)
Computes apply p t blobs before later (Err Memory) = Unit {0}
Computes apply p t blobs before later (Err _) = ⊥

-- What the writers of the task's reads carry was read; then what its jobs make is what the task carries.
pub record IsComputed (apply : Apply) (p : Plan) (c : ℕ → ℕ → Option (List ℕ)) (t : ℕ)
    (blobs : List (List ℕ)) : Type 0 where
  pub carries : (f : ℕ) → c t f ≡ computed apply p t blobs f
  pub declines : declined apply p c t ≡ first_declined apply p t blobs
