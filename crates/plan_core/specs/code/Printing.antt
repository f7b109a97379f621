-- The text of a plan, row by row.
use Rattle.std.specs.Prelude.{ℕ, suc, ◌==◌, ◌&&◌, ◌++◌, Bool, not, if◌then◌else◌, List, [], ◌∷◌, map, codes, Option, Some, None, is_some, slice_get}
use Rattle.std.specs.Fmt.{decimal}
use Rattle.values.specs.Printed.{printed_name}
use Rattle.values.specs.declared.numbers.FileId.{FileId}
use Rattle.values.specs.declared.numbers.PairId.{PairId}
use Rattle.values.specs.declared.numbers.SiteId.{SiteId}
use Rattle.values.specs.declared.numbers.TaskId.{TaskId}
use Rattle.values.specs.declared.policy.Policy.{Policy}
use Rattle.plan_core.specs.declared.plan.Plan.{Plan}
use Rattle.plan_core.specs.declared.plan.Pair.{Pair}
use Rattle.plan_core.specs.declared.plan.PlanFile.{PlanFile}
use Rattle.plan_core.specs.declared.plan.PlanJob.{PlanJob}
use Rattle.plan_core.specs.declared.plan.PlanSite.{PlanSite}
use Rattle.plan_core.specs.declared.plan.Task.{Task}
use Rattle.plan_core.specs.declared.plan.TaskKind.{TaskKind}
use Rattle.plan_core.specs.declared.plan.TaskKind.TheVariants.{Transfer, Run, Clean}
use Rattle.plan_core.specs.declared.plan.Source.{Source}
use Rattle.plan_core.specs.declared.plan.Source.TheVariants.{Pfn, Site}
use Rattle.plan_core.specs.declared.plan.Target.{Target}
use Rattle.plan_core.specs.declared.plan.Target.TheVariants.{Site as Into, Delivery}
use Rattle.plan_core.specs.Words.{job_numbers, task_numbers}

-- words, a space before each
abbrev pub spaced : List (List ℕ) → List ℕ
spaced [] = []
spaced (w ∷ ws) = codes " " ++ w ++ spaced ws

-- a line of words, a space between
abbrev pub row : List (List ℕ) → List ℕ
row [] = codes "\n"
row (w ∷ ws) = w ++ spaced ws ++ codes "\n"

-- numbers, a space between; a hyphen for none
unfoldable pub numbers : List ℕ → List ℕ
numbers [] = codes "-"
numbers (n ∷ ns) = decimal n ++ spaced (map decimal ns)

unfoldable pub maybe : Option ℕ → List ℕ
maybe None = codes "-"
maybe (Some n) = decimal n

-- the lines of some parts, whose numbers go on from n
abbrev pub numbered : {A : Type 0} → (ℕ → A → List ℕ) → ℕ → List A → List ℕ
numbered line n [] = []
numbered line n (x ∷ xs) = line n x ++ numbered line (suc n) xs

abbrev pub is_plain : Policy → Bool
is_plain p = (p.retries == 0) && (not p.fresh && not (is_some p.output))

abbrev pub flag : Bool → ℕ
flag b = if b then 1 else 0

-- a plain policy has no line
unfoldable pub policy_line : Policy → List ℕ
policy_line p = if is_plain p then [] else row
    (codes "policy" ∷ decimal p.retries ∷ decimal (flag p.fresh) ∷ maybe p.output ∷ [])

unfoldable pub site_line : ℕ → PlanSite → List ℕ
site_line n s = row (codes "site" ∷ decimal n ∷ printed_name s.name ∷ decimal s.bound ∷ [])

unfoldable pub file_line : ℕ → PlanFile → List ℕ
file_line n f = row (codes "file" ∷ decimal n ∷ printed_name f.lfn ∷ maybe f.declared ∷ [])

abbrev pub placed : Option SiteId → List (List ℕ)
placed None = codes "dropped" ∷ []
placed (Some s) = codes "site" ∷ decimal s.0 ∷ []

unfoldable pub job_line : ℕ → PlanJob → List ℕ
job_line n j = row (codes "job" ∷ decimal n ∷ printed_name j.id ∷ placed j.site)

-- the site and the file of a pair; 0 where there is no such pair
abbrev pub site_number : Option Pair → ℕ
site_number None = 0
site_number (Some q) = q.site.0

abbrev pub file_number : Option Pair → ℕ
file_number None = 0
file_number (Some q) = q.file.0

abbrev pub pair_files : List Pair → List PairId → List ℕ
pair_files pairs qs = map (λ (q : PairId). file_number (slice_get pairs q.0)) qs

-- where a file comes from, and where it goes
abbrev pub source_words : Source → List (List ℕ)
source_words (Pfn x) = codes "pfn" ∷ printed_name x ∷ []
source_words (Site s) = codes "site" ∷ decimal s.0 ∷ []

abbrev pub target_words : Target → List (List ℕ)
target_words (Into s) = codes "site" ∷ decimal s.0 ∷ []
target_words Delivery = codes "out" ∷ []

-- the rows of a task, with the texts of its lists
unfoldable pub run_row : ℕ → SiteId → List ℕ → List ℕ → List ℕ → List ℕ → List ℕ
run_row t s jobs reads writes after =
    row (codes "task" ∷ decimal t ∷ codes "run" ∷ decimal
    s.0 ∷ codes "jobs" ∷ jobs ∷ codes "reads" ∷ reads ∷ codes "writes" ∷ writes ∷ codes "after" ∷ after ∷ [])

unfoldable pub transfer_row : ℕ → FileId → Source → Target → List ℕ → List ℕ
transfer_row t f from to after =
    row (codes "task" ∷ decimal t ∷ codes "transfer" ∷ decimal f.0 ∷ codes "from" ∷ source_words from
    ++ codes "to" ∷ target_words to ++ codes "after" ∷ after ∷ [])

unfoldable pub clean_row : ℕ → Option Pair → List ℕ → List ℕ
clean_row t q after = row (codes "task" ∷ decimal t ∷ codes "clean" ∷ codes "site" ∷ decimal
    (site_number q) ∷ codes "file" ∷ decimal (file_number q) ∷ codes "after" ∷ after ∷ [])

abbrev pub task_row : List Pair → ℕ → Task → TaskKind → List ℕ
task_row pairs n t (Run s js) = run_row n s (numbers (job_numbers js)) (numbers (pair_files pairs t.reads))
    (numbers (pair_files pairs t.writes)) (numbers (task_numbers t.parents))
task_row pairs n t (Transfer f from to) = transfer_row n f from to (numbers (task_numbers t.parents))
task_row pairs n t (Clean q) = clean_row n (slice_get pairs q.0) (numbers (task_numbers t.parents))

unfoldable pub task_line : List Pair → ℕ → Task → List ℕ
task_line pairs n t = task_row pairs n t t.kind

unfoldable pub peak_line : ℕ → ℕ → List ℕ
peak_line n bytes = row (codes "peak" ∷ decimal n ∷ decimal bytes ∷ [])

-- the plan, an order of its tasks, and the greatest usage of each site along it
unfoldable pub plan_text : Plan → List TaskId → List ℕ → List ℕ
plan_text p order peaks =
    codes "plan 1\n"
    ++ row (codes "workflow" ∷ printed_name p.workflow ∷ [])
    ++ policy_line p.policy
    ++ numbered site_line 0 p.sites
    ++ numbered file_line 0 p.files
    ++ numbered job_line 0 p.jobs
    ++ numbered (task_line p.pairs) 0 p.tasks
    ++ row (codes "order" ∷ numbers (task_numbers order) ∷ [])
    ++ numbered peak_line 0 peaks
    ++ codes "closed\n"
