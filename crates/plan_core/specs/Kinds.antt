-- What a task of a kind reads and writes, and for whom a task waits.
use Rattle.std.specs.Prelude.{ℕ, ◌==◌, ◌&&◌, ◌||◌, Bool, false, not, List, Option, Some, None, slice_get}
use Rattle.std.specs.List.{list_any}
use Rattle.values.specs.declared.numbers.JobId.{JobId}
use Rattle.plan_core.specs.declared.plan.Plan.{Plan}
use Rattle.plan_core.specs.declared.plan.PlanJob.{PlanJob}
use Rattle.plan_core.specs.declared.plan.Task.{Task}
use Rattle.plan_core.specs.declared.plan.Pair.{Pair}
use Rattle.plan_core.specs.declared.plan.TaskKind.{TaskKind}
use Rattle.plan_core.specs.declared.plan.TaskKind.TheVariants.{Transfer, Run, Clean}
use Rattle.plan_core.specs.declared.plan.Source.TheVariants.{Pfn, Site}
use Rattle.plan_core.specs.declared.plan.Target.TheVariants.{Site as Into, Delivery}
use Rattle.plan_core.specs.Numbers.{has}
use Rattle.plan_core.specs.Words.{reads_in, writes_in, kind_in, kind, inputs, outputs}

-- one of the jobs has the file among its inputs; among its outputs
abbrev pub jobs_use : List PlanJob → List JobId → ℕ → Bool
jobs_use jobs js f = list_any (λ (j : JobId). has (inputs jobs j.0) f) js

abbrev pub jobs_make : List PlanJob → List JobId → ℕ → Bool
jobs_make jobs js f = list_any (λ (j : JobId). has (outputs jobs j.0) f) js

-- A Run reads its jobs' inputs that its own jobs don't make. A Transfer from a site reads its file there.
abbrev pub kind_reads : List PlanJob → Option TaskKind → ℕ → ℕ → Bool
kind_reads jobs None s f = false
kind_reads jobs (Some (Transfer g (Pfn x) to)) s f = false
kind_reads jobs (Some (Transfer g (Site a) to)) s f = (a.0 == s) && (g.0 == f)
kind_reads jobs (Some (Run a js)) s f = (a.0 == s) && (jobs_use jobs js f && not (jobs_make jobs js f))
kind_reads jobs (Some (Clean q)) s f = false

-- A Run writes its jobs' outputs. A Transfer to a site writes its file there; a delivery writes no pair.
abbrev pub kind_writes : List PlanJob → Option TaskKind → ℕ → ℕ → Bool
kind_writes jobs None s f = false
kind_writes jobs (Some (Transfer g from (Into a))) s f = (a.0 == s) && (g.0 == f)
kind_writes jobs (Some (Transfer g from Delivery)) s f = false
kind_writes jobs (Some (Run a js)) s f = (a.0 == s) && jobs_make jobs js f
kind_writes jobs (Some (Clean q)) s f = false

-- task t reads, writes the file at the site; carries the file
abbrev pub reads_file : Plan → ℕ → ℕ → ℕ → Bool
reads_file p t s f = kind_reads p.jobs (kind p t) s f

abbrev pub writes_file : Plan → ℕ → ℕ → ℕ → Bool
writes_file p t s f = kind_writes p.jobs (kind p t) s f

-- the same of a pair
abbrev pub on_pair : (ℕ → ℕ → Bool) → Option Pair → Bool
on_pair test None = false
on_pair test (Some q) = test q.site.0 q.file.0

abbrev pub reads_pair : Plan → ℕ → ℕ → Bool
reads_pair p t q = on_pair (reads_file p t) (slice_get p.pairs q)

abbrev pub writes_pair : Plan → ℕ → ℕ → Bool
writes_pair p t q = on_pair (writes_file p t) (slice_get p.pairs q)

-- a Clean of one of the pairs
abbrev pub sweeps : Option TaskKind → List ℕ → Bool
sweeps (Some (Clean q)) qs = has qs q.0
sweeps _ qs = false

-- the other task writes what this one reads; this one is the Clean of a pair that the other writes or reads
abbrev pub task_waits : Option Task → Option Task → Bool
task_waits t u = list_any (λ q. has (writes_in u) q) (reads_in t)
    || (sweeps (kind_in t) (writes_in u) || sweeps (kind_in t) (reads_in u))

unfoldable pub waits_for : Plan → ℕ → ℕ → Bool
waits_for p t u = task_waits (slice_get p.tasks t) (slice_get p.tasks u)
