-- What a plan says of its sites, files, jobs, pairs and tasks by number; nothing where there is no such number.
use Rattle.std.specs.Prelude.{ℕ, ◌==◌, Bool, false, true, List, [], length, map, Option, Some, None, option_and_then, slice_get, unwrap_or, option_map}
use Rattle.values.specs.Apply.{Apply}
use Rattle.values.specs.declared.numbers.FileId.{FileId}
use Rattle.values.specs.declared.numbers.JobId.{JobId}
use Rattle.values.specs.declared.numbers.PairId.{PairId}
use Rattle.values.specs.declared.numbers.TaskId.{TaskId}
use Rattle.plan_core.specs.declared.plan.Plan.{Plan}
use Rattle.plan_core.specs.declared.plan.PlanFile.{PlanFile}
use Rattle.plan_core.specs.declared.plan.PlanJob.{PlanJob}
use Rattle.plan_core.specs.declared.plan.PlanSite.{PlanSite}
use Rattle.plan_core.specs.declared.plan.Pair.{Pair}
use Rattle.plan_core.specs.declared.plan.Task.{Task}
use Rattle.plan_core.specs.declared.plan.TaskKind.{TaskKind}
use Rattle.plan_core.specs.declared.plan.TaskKind.TheVariants.{Transfer, Run, Clean}
use Rattle.plan_core.specs.declared.plan.Target.TheVariants.{Delivery}

abbrev pub file_numbers : List FileId → List ℕ
file_numbers = map (λ (f : FileId). f.0)

abbrev pub job_numbers : List JobId → List ℕ
job_numbers = map (λ (j : JobId). j.0)

abbrev pub pair_numbers : List PairId → List ℕ
pair_numbers = map (λ (q : PairId). q.0)

abbrev pub task_numbers : List TaskId → List ℕ
task_numbers = map (λ (t : TaskId). t.0)

-- tasks: what they read, write and wait for, and what they do
abbrev pub reads_in : Option Task → List ℕ
reads_in None = []
reads_in (Some t) = pair_numbers t.reads

abbrev pub writes_in : Option Task → List ℕ
writes_in None = []
writes_in (Some t) = pair_numbers t.writes

abbrev pub parents_in : Option Task → List ℕ
parents_in None = []
parents_in (Some t) = task_numbers t.parents

abbrev pub kind_in : Option Task → Option TaskKind
kind_in None = None
kind_in (Some t) = Some t.kind

unfoldable pub reads : Plan → ℕ → List ℕ
reads p t = reads_in (slice_get p.tasks t)

unfoldable pub writes : Plan → ℕ → List ℕ
writes p t = writes_in (slice_get p.tasks t)

unfoldable pub parents : Plan → ℕ → List ℕ
parents p t = parents_in (slice_get p.tasks t)

unfoldable pub kind : Plan → ℕ → Option TaskKind
kind p t = kind_in (slice_get p.tasks t)

abbrev pub count_tasks : Plan → ℕ
count_tasks p = length p.tasks

abbrev pub is_run_kind : Option TaskKind → Bool
is_run_kind (Some (Run s js)) = true
is_run_kind _ = false

abbrev pub is_transfer_kind : Option TaskKind → Bool
is_transfer_kind (Some (Transfer g from to)) = true
is_transfer_kind _ = false

abbrev pub is_clean_kind : Option TaskKind → Bool
is_clean_kind (Some (Clean q)) = true
is_clean_kind _ = false

-- a Clean of this pair, a delivery of this file
abbrev pub kind_cleans : Option TaskKind → ℕ → Bool
kind_cleans (Some (Clean c)) q = c.0 == q
kind_cleans _ q = false

abbrev pub kind_delivers : Option TaskKind → ℕ → Bool
kind_delivers (Some (Transfer g from Delivery)) f = g.0 == f
kind_delivers _ f = false

abbrev pub is_run : Plan → ℕ → Bool
is_run p t = is_run_kind (kind p t)

abbrev pub is_transfer : Plan → ℕ → Bool
is_transfer p t = is_transfer_kind (kind p t)

abbrev pub is_clean : Plan → ℕ → Bool
is_clean p t = is_clean_kind (kind p t)

abbrev pub cleans : Plan → ℕ → ℕ → Bool
cleans p t q = kind_cleans (kind p t) q

abbrev pub delivers : Plan → ℕ → ℕ → Bool
delivers p t f = kind_delivers (kind p t) f

-- jobs, of a plan's list of jobs
abbrev pub inputs_in : Option PlanJob → List ℕ
inputs_in None = []
inputs_in (Some j) = file_numbers j.inputs

abbrev pub outputs_in : Option PlanJob → List ℕ
outputs_in None = []
outputs_in (Some j) = file_numbers j.outputs

unfoldable pub inputs : List PlanJob → ℕ → List ℕ
inputs jobs j = inputs_in (slice_get jobs j)

unfoldable pub outputs : List PlanJob → ℕ → List ℕ
outputs jobs j = outputs_in (slice_get jobs j)

-- what a job's tool makes of these inputs
unfoldable pub tool_outputs : Apply → List PlanJob → ℕ → List (List ℕ) → Option (List (List ℕ))
tool_outputs apply jobs j ins = option_and_then (λ (x : PlanJob). apply x.tool x.arguments ins (length x.outputs))
    (slice_get jobs j)

-- pairs
abbrev pub count_pairs : Plan → ℕ
count_pairs p = length p.pairs

unfoldable pub pair : Plan → ℕ → Option Pair
pair p q = slice_get p.pairs q

abbrev pub is_on_site : Option Pair → ℕ → Bool
is_on_site None s = false
is_on_site (Some q) s = q.site.0 == s

-- pair q is at this site
unfoldable pub is_at : Plan → ℕ → ℕ → Bool
is_at p q s = is_on_site (slice_get p.pairs q) s

-- the declared size of a file
abbrev pub declared_in : Option PlanFile → Option ℕ
declared_in None = None
declared_in (Some f) = f.declared

unfoldable pub declared : Plan → ℕ → Option ℕ
declared p f = declared_in (slice_get p.files f)

unfoldable pub bound : Plan → ℕ → ℕ
bound p s = unwrap_or (option_map (λ (x : PlanSite). x.bound) (slice_get p.sites s)) 0

-- the policy
unfoldable pub retries : Plan → ℕ
retries p = p.policy.retries

unfoldable pub is_fresh : Plan → Bool
is_fresh p = p.policy.fresh

unfoldable pub output_bound : Plan → Option ℕ
output_bound p = p.policy.output
