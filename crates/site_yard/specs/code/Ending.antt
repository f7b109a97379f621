-- Why a run failed: what its first Fail says, with the names of its plan.
use Rattle.std.specs.Prelude.{◌≡◌, ℕ, List, [], ◌∷◌, Option, Some, None, option_map, Result, Ok, Err, slice_get}
use Rattle.values.specs.declared.numbers.TaskId.{TaskId}
use Rattle.plan_core.specs.declared.plan.Plan.{Plan}
use Rattle.plan_core.specs.declared.plan.PlanJob.{PlanJob}
use Rattle.plan_core.specs.declared.plan.TaskKind.{TaskKind}
use Rattle.plan_core.specs.declared.plan.TaskKind.TheVariants.{Transfer}
use Rattle.plan_core.specs.declared.plan.Source.TheVariants.{Pfn}
use Rattle.plan_core.specs.Numbers.{or_else}
use Rattle.plan_core.specs.Words.{declared, kind}
use Rattle.plan_core.specs.Names.{file_name}
use Rattle.storage_simulation.specs.Goods.{or_zero}
use Rattle.run_record.specs.declared.entry.Cause.{Cause}
use Rattle.run_record.specs.declared.entry.Cause.TheVariants as why
use Rattle.run_record.specs.Events.{Event, Fail}
use Rattle.run_record.specs.declared.run_fault.RunFault.{RunFault}
use Rattle.run_record.specs.declared.run_fault.RunFault.TheVariants.{ReplicaAbsent, ReplicaTooLong, ChecksumDiffers, Oversize, Declined, ToolFailed, HostFailed, Memory}
use Rattle.lease_rules.specs.Legal.{checksum}
use Rattle.site_yard.specs.declared.ending.Failed.{Failed}

-- the id of a job
abbrev pub id_in : Option PlanJob → List ℕ
id_in None = []
id_in (Some j) = j.id

unfoldable pub job_name : Plan → ℕ → List ℕ
job_name p j = id_in (slice_get p.jobs j)

-- the file that a Transfer moves, and the pfn from which it comes
abbrev pub moved_file : Option TaskKind → ℕ
moved_file (Some (Transfer f from to)) = f.0
moved_file _ = 0

abbrev pub source_pfn : Option TaskKind → List ℕ
source_pfn (Some (Transfer f (Pfn x) to)) = x
source_pfn _ = []

-- the checksum that is registered, else the one that was found
abbrev pub registered : List ℕ → Option (List ℕ) → List ℕ
registered found None = found
registered found (Some wanted) = wanted

-- the fault of a failed task
abbrev pub fault_of : Plan → TaskId → Cause → RunFault
fault_of p t why.Absent = ReplicaAbsent (file_name p (moved_file (kind p t.0))) (source_pfn (kind p t.0))
fault_of p t (why.TooLong n) = ReplicaTooLong (file_name p (moved_file (kind p t.0)))
    (or_zero (declared p (moved_file (kind p t.0)))) n
fault_of p t (why.Checksum d) = ChecksumDiffers (file_name p (moved_file (kind p t.0)))
    (registered d (checksum p (moved_file (kind p t.0)))) d
fault_of p t (why.Oversize j f n) = Oversize (job_name p j.0) (file_name p f.0) (or_zero (declared p f.0)) n
fault_of p t (why.Declined j) = Declined (job_name p j.0)
fault_of p t (why.ToolFailed j) = ToolFailed (job_name p j.0)
fault_of p t why.HostFailed = HostFailed (Some t)
fault_of p t why.Memory = Memory

-- the first Fail of a record
abbrev pub failed_in : Event → Option Failed
failed_in (Fail w t c ns) = Some (record { task = record { 0 = t }; cause = c })
failed_in _ = None

abbrev pub first_failed : List Event → Option Failed
first_failed [] = None
first_failed (e ∷ r) = or_else (failed_in e) (first_failed r)

abbrev pub first_fault : Plan → List Event → Option RunFault
first_fault p r = option_map (λ (f : Failed). fault_of p f.task f.cause) (first_failed r)

-- How a run ended: no Fail stands, or the fault of the first one. Want of memory comes besides.
abbrev pub Ends : Plan → List Event → Result (Unit {0}) RunFault → Type 0
Ends p r (Ok u) = first_fault p r ≡ None
Ends p r (Err Memory) = Unit {0}
Ends p r (Err fault) = first_fault p r ≡ Some fault
