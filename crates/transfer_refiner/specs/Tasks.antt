-- The tables of a draft's plan, its tasks in order, and the first fault.
use Rattle.std.specs.Prelude.{ℕ, zero, suc, ◌==◌, ◌&&◌, Bool, true, not, List, [], ◌∷◌, ◌++◌, length, map, Option, Some, None, option_and_then, slice_index_or}
use Rattle.std.specs.List.{list_any}
use Rattle.values.specs.declared.numbers.JobId.{JobId}
use Rattle.values.specs.declared.numbers.SiteId.{SiteId}
use Rattle.workflow_core.specs.declared.workflow.Job.{Job}
use Rattle.workflow_core.specs.declared.workflow.Output.{Output}
use Rattle.workflow_core.specs.declared.workflow.Workflow.{Workflow}
use Rattle.workflow_core.specs.WellFormed.{parent_of, child_of}
use Rattle.workflow_core.specs.Requested.{is_requested}
use Rattle.replica_catalog.specs.declared.catalog.Replica.{Replica}
use Rattle.plan_request.specs.declared.request.Execution.{Execution}
use Rattle.plan_request.specs.declared.request.ToolOf.{ToolOf}
use Rattle.plan_request.specs.JobTools.{tool_of}
use Rattle.plan_core.specs.declared.plan.Pair.{Pair}
use Rattle.plan_core.specs.declared.plan.PlanFile.{PlanFile}
use Rattle.plan_core.specs.declared.plan.PlanJob.{PlanJob}
use Rattle.plan_core.specs.declared.plan.PlanSite.{PlanSite}
use Rattle.plan_core.specs.declared.plan.Source.{Source}
use Rattle.plan_core.specs.declared.plan.Source.TheVariants.{Pfn, Site}
use Rattle.plan_core.specs.declared.plan.Target.TheVariants.{Site as Into, Delivery}
use Rattle.plan_core.specs.declared.plan.TaskKind.{TaskKind}
use Rattle.plan_core.specs.declared.plan.TaskKind.TheVariants.{Transfer, Run}
use Rattle.plan_core.specs.Numbers.{has, below}
use Rattle.plan_core.specs.Words.{job_numbers}
use Rattle.transfer_refiner.specs.Draft.{Draft, site_of, moves, stands, home, draft_file_name, replica_in_draft, pfns_of, first_pfn, chosen, declared_of}

abbrev pub count_files : Draft → ℕ
count_files d = length d.workflow.files

abbrev pub count_execution_sites : Draft → ℕ
count_execution_sites d = length d.request.execute

-- the pairs (a, b) with a below m and b below n that pass, by a, then b
unfoldable pub grid : ℕ → ℕ → (ℕ → ℕ → Bool) → List (ℕ × ℕ)
grid zero n test = []
grid (suc m) n test = grid m n test ++ map (λ b. (m, b)) (below n (test m))

-- ---- tasks

-- from the site at which a part makes the file, else from this pfn
abbrev pub source : Option ℕ → List ℕ → Source
source None x = Pfn x
source (Some a) x = Site (record { 0 = a })

abbrev pub run : Draft → List JobId → TaskKind
run d js = Run (record { 0 = site_of d js }) js

abbrev pub transfer : Draft → ℕ × ℕ → TaskKind
transfer d x = Transfer (record { 0 = x.0 }) (source (home d x.0) (chosen d x.0 x.1))
    (Into (record { 0 = x.1 }))

abbrev pub delivery : Draft → ℕ → TaskKind
delivery d f = Transfer (record { 0 = f }) (source (home d f) (first_pfn (pfns_of d f))) Delivery

-- a Run for each part; a Transfer for each file and site that it has to come to, by (file, site); a delivery for each requested file
unfoldable pub kinds_of : Draft → List TaskKind
kinds_of d = map (run d) d.parts ++ (map (transfer d) (grid (count_files d) (count_execution_sites d) (moves d))
    ++ map (delivery d) (below (count_files d) (is_requested d.workflow)))

-- the jobs of the part with a number
abbrev pub part_of : Draft → ℕ → List ℕ
part_of d t = job_numbers (slice_index_or d.parts t [])

-- part t holds the second job of a stated pair of which part u holds the first
unfoldable pub comes_after : Draft → ℕ → ℕ → Bool
comes_after d t u = not (t == u) && list_any
    (λ (pair : JobId × JobId). has (part_of d u) (parent_of pair)
    && has (part_of d t) (child_of pair)) d.workflow.pairs

-- ---- tables

-- each site and file that stands there, by (site, file)
abbrev pub pair_of : ℕ × ℕ → Pair
pair_of x = record { site = record { 0 = x.0 }; file = record { 0 = x.1 } }

unfoldable pub pairs_of : Draft → List Pair
pairs_of d = map pair_of (grid (count_execution_sites d) (count_files d) (stands d))

abbrev pub planned_site : Execution → PlanSite
planned_site e = record { name = e.site; bound = e.bound }

abbrev pub planned_job : List ToolOf → Job → Option SiteId → PlanJob
planned_job tools j s = record {
  id = j.id;
  tool = tool_of tools j.transformation.name;
  arguments = j.arguments;
  inputs = j.inputs;
  outputs = map (λ (o : Output). o.file) j.outputs;
  site = s;
}

-- each job with its site
abbrev pub jobs_of : List ToolOf → List Job → List (Option SiteId) → List PlanJob
jobs_of tools [] ss = []
jobs_of tools (j ∷ js) [] = []
jobs_of tools (j ∷ js) (s ∷ ss) = planned_job tools j s ∷ jobs_of tools js ss

-- an output of the job has the file, and the flag that it is to be registered
abbrev pub flags : ℕ → Job → Bool
flags f j = list_any (λ (o : Output). o.register && (o.file.0 == f)) j.outputs

abbrev pub is_flagged : Workflow → ℕ → Bool
is_flagged w f = list_any (flags f) w.jobs

abbrev pub planned_file : Draft → ℕ → PlanFile
planned_file d f = record {
  lfn = draft_file_name d f;
  declared = declared_of d f;
  checksum = option_and_then (λ (e : Replica). e.checksum) (replica_in_draft d f);
  register = is_flagged d.workflow f;
}

abbrev pub plan_files : Draft → List PlanFile
plan_files d = map (planned_file d) (below (count_files d) (λ f. true))
