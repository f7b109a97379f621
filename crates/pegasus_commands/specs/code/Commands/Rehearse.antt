-- `rehearse`: makes the workload of so many images, plans it, and runs it over a store in memory of its own. It asks for
-- no document, and leaves the host of the call as it was.
use Rattle.std.specs.Prelude.{◌≡◌, ◌⊎◌, ℕ, List, [], codes, length, option_map, Option, Some, None, Result, Ok, Err}
use Rattle.std.specs.FinMap as files
use Rattle.outside.specs.code.Counts.{no_calls}
use Rattle.outside.specs.code.MemoryHost.{host_counts, host_store}
use Rattle.outside.specs.declared.memory_host.MemoryHost.{MemoryHost}
use Rattle.plan_core.specs.declared.plan.Plan.{Plan}
use Rattle.plan_core.specs.Words.{bound, count_tasks, task_numbers}
use Rattle.storage_simulation.specs.code.Ordering.{IsPeak}
use Rattle.storage_simulation.specs.Ordering.{at_start}
use Rattle.planner.specs.code.Planning.{IsPlanOf}
use Rattle.planner.specs.declared.plan_fault.PlanFault.{PlanFault}
use Rattle.planner.specs.declared.plan_fault.PlanFault.TheVariants as plan_faults
use Rattle.planner.specs.declared.surveyed.Surveyed.{Surveyed}
use Rattle.run_record.specs.code.Events.{Log}
use Rattle.run_record.specs.declared.run_fault.RunFault.{RunFault}
use Rattle.run_record.specs.declared.run_fault.RunFault.TheVariants as run_faults
use Rattle.site_yard.specs.code.Faults.{AllCarried}
use Rattle.site_yard.specs.Trace.{trace_of}
use Rattle.plan_run.specs.Moments.{Tools, Work}
use Rattle.plan_run.specs.code.Moments.{first_tool}
use Rattle.plan_run.specs.code.Running.{End}
use Rattle.rehearsal.specs.Preparing.{HasMosaic, IsSurveyedWorkload, RefusesWorkload, told_by, workload_store}
use Rattle.rehearsal.specs.Summary.{summary_text}
use Rattle.rehearsal.specs.declared.preparing.Prepared.{Prepared}
use Rattle.rehearsal.specs.declared.rehearsal.Rehearsal.{Rehearsal}
use Rattle.rehearsal.specs.declared.figures.Figures.{Figures}
use Rattle.pegasus_commands.specs.declared.fault.CallFault.{CallFault}
use Rattle.pegasus_commands.specs.declared.fault.CallFault.TheVariants.{Failed, Memory}
use Rattle.pegasus_commands.specs.code.Commands.Plan.{HasNoFault, task_limit}
use Rattle.pegasus_commands.specs.code.CommandSpec.{CommandSpec}
use Rattle.pegasus_commands.specs.code.Fault.{Answer, done, not_for, plan_answer}
use Rattle.pegasus_commands.specs.code.KeptTools.{unknown_tool}
use Rattle.pegasus_commands.specs.Moments.{DocsMoment}
use Rattle.pegasus_commands.specs.code.PlanRun.{HasRunPlan, IsUnrun}
use Rattle.pegasus_commands.specs.PlanRun.{value_in}

-- ---- what it takes: no document of the call, but those of the workload of n images

-- the workload's documents end the command, with this answer
pub record IsUnmade (n : ℕ) (answer : CallFault) : Type 0 where
  pub fault : PlanFault
  pub refuses : RefusesWorkload n fault
  pub answers : answer ≡ plan_answer fault

abbrev pub IsMade : ℕ → Result Surveyed CallFault → Type 0
IsMade n (Ok s) = IsSurveyedWorkload n s
IsMade n (Err answer) = IsUnmade n answer

-- the workload is made, and no document is asked for
pub record Makes (n : ℕ) (before after : DocsMoment) (result : Result Surveyed CallFault) : Type 0 where
  pub not_asked : after ≡ before
  pub made : IsMade n result

-- ---- the run

-- The work inside: with the tools of the call, over a store that tells, and holds the images alone.
pub record IsInside (n : ℕ) (outer inner : Work) : Type 0 where
  pub apply : inner.apply ≡ outer.apply
  pub known : inner.known ≡ outer.known
  pub told : inner.before.told ≡ Some (workload_store n)
  pub counts : inner.before.counts ≡ no_calls
  pub tool_before : inner.before.tool ≡ outer.before.tool
  pub tool_after : inner.after.tool ≡ outer.after.tool
  pub runs_before : inner.before.runs ≡ outer.before.runs
  pub runs_after : inner.after.runs ≡ outer.after.runs
  pub entered_before : inner.before.entered ≡ outer.before.entered
  pub entered_after : inner.after.entered ≡ outer.after.entered

-- The workload's plan was run inside by some workers.
pub record RunsInside (n workers : ℕ) (outer : Work) (t : Tools) (s : Surveyed)
    (answer : Answer) : Type 0 where
  pub inner : Work
  pub inside : IsInside n outer inner
  pub text : List ℕ
  pub ran : HasRunPlan inner t workers s text answer

-- the figures of the summary
pub record AreFigures (s : Surveyed) (p : Plan) (order : List ℕ) (f : Figures) : Type 0 where
  pub jobs : f.jobs ≡ length s.survey.workflow.jobs
  pub tasks : f.tasks ≡ count_tasks p
  pub bound : f.bound ≡ bound p 0
  pub peak : ∥ IsPeak p at_start order 0 f.peak ∥₁

-- the name of the one file that is requested
abbrev pub mosaic_name : List ℕ
mosaic_name = codes "mosaic.txt"

-- The store after the run: it holds the images as replicas, its changes are those of the record and no others, and what
-- was delivered is the mosaic alone, with this content.
pub record IsStoreAfter (n : ℕ) (p : Plan) (x : Rehearsal) (content : List ℕ) : Type 0 where
  pub replicas : (host_store x.host).replicas ≡ (workload_store n).replicas
  pub changes : (host_store x.host).trace ≡ trace_of p x.record.events
  pub mosaic : files.get (host_store x.host).delivered mosaic_name ≡ Some content
  pub others : (name : List ℕ) → (name ≡ mosaic_name → ⊥)
      → files.get (host_store x.host).delivered name ≡ None

-- A rehearsal that ended Done. That its record is legal, complete and by these workers, and that every bound was kept, is
-- in the run, as for every run of a plan; the mosaic is its value.
pub record HasRehearsed (n workers : ℕ) (outer : Work) (t : Tools) (s : Surveyed) (text : List ℕ)
    (x : Rehearsal) : Type 0 where
  pub run : RunsInside n workers outer t s done
  pub record_is : x.record.events ≡ run.ran.ran.r
  pub tells : run.inner.after.told ≡ Some (host_store x.host)
  pub mosaic : HasMosaic s
  pub content : List ℕ
  pub valued : value_in run.inner s (workload_store n) mosaic.mosaic ≡ Some content
  pub store : IsStoreAfter n run.ran.plan x content
  pub figures : Figures
  pub figures_are : AreFigures s run.ran.plan (task_numbers run.ran.order) figures
  pub text_is : text ≡ summary_text n figures content

-- the faults with which a rehearsal may end: those of the tools of the call
abbrev pub IsOfTools : RunFault → Type 0
IsOfTools (run_faults.Declined id) = Unit {0}
IsOfTools (run_faults.Oversize id lfn declared length) = Unit {0}
IsOfTools (run_faults.ToolFailed id) = Unit {0}
IsOfTools fault = ⊥

-- A rehearsal in which a tool failed or declined, or made too much; no call of the store inside has failed.
pub record HasFailed (n workers : ℕ) (outer : Work) (t : Tools) (s : Surveyed)
    (fault : RunFault) : Type 0 where
  pub of_tools : IsOfTools fault
  pub run : RunsInside n workers outer t s (not_for (Failed fault))
  pub none_failed : run.inner.after.counts.faults ≡ 0

-- When each answer comes, the text before its line, and what is given back.
abbrev pub Says : ℕ → ℕ → Work → Tools → Surveyed → List ℕ → Answer → Type 0
Says n workers w t s text (Ok (Some x)) = ∥ HasRehearsed n workers w t s text x ∥₁
Says n workers w t s text (Ok None) = ⊥
Says n workers w t s text (Err Memory) = Unit {0}
Says n workers w t s text (Err (Failed fault)) = (text ≡ []) × ∥ HasFailed n workers w t s fault ∥₁
Says n workers w t s text (Err fault) = IsUnrun w t s text (Err fault)

-- the host of the call is as it was, whatever the answer
pub record Rehearses (n workers : ℕ) (w : Work) (t : Tools) (s : Surveyed) (text : List ℕ)
    (answer : Answer) : Type 0 where
  pub told : w.after.told ≡ w.before.told
  pub counts : w.after.counts ≡ w.before.counts
  pub says : Says n workers w t s text answer

-- ---- what keeps it from Done

-- A plan's tools are known, and all that its tasks carry is made of the images and fits.
pub record CanRunInside (n : ℕ) (w : Work) (p : Plan) : Type 0 where
  pub tools : unknown_tool w.known p.jobs ≡ None
  pub carried : AllCarried w.apply (told_by (workload_store n)) p

-- The workload's documents have no fault, nor has planning, and its plan can be run.
pub record CanRehearse (n : ℕ) (w : Work) : Type 0 where
  pub made : (fault : PlanFault) → RefusesWorkload n fault → fault ≡ plan_faults.Memory
  pub no_fault : (s : Surveyed) → IsSurveyedWorkload n s → HasNoFault s
  pub plan : (s : Surveyed) (p : Plan) → IsSurveyedWorkload n s → IsPlanOf s.request s.survey task_limit p
      → CanRunInside n w p

-- with one worker it is the first member of the crew
abbrev pub rehearse : ℕ → CommandSpec
rehearse n = record {
  Inputs = Surveyed;
  Comes = Makes n;
  Works = λ w t. Rehearses n 1 w (first_tool w);
  CanFinish = λ told. CanRehearse n;
}

abbrev pub rehearse_by : ℕ → ℕ → CommandSpec
rehearse_by n workers = record {
  Inputs = Surveyed;
  Comes = Makes n;
  Works = Rehearses n workers;
  CanFinish = λ told. CanRehearse n;
}

-- ---- parts of a rehearsal

-- a workload that is ready, by its parts
abbrev pub prepared : Surveyed → MemoryHost → Prepared
prepared s host = record { surveyed = s; host = host }

-- What is told of a run that is done, and given back.
pub record Closes (n : ℕ) (f : Figures) (log : Option Log) (host : MemoryHost) (text : List ℕ)
    (x : Rehearsal) : Type 0 where
  pub record_is : option_map (λ (h : Log). h.events) log ≡ Some x.record.events
  pub host_is : x.host ≡ host
  pub content : List ℕ
  pub mosaic : files.get (host_store host).delivered mosaic_name ≡ Some content
  pub text_is : text ≡ summary_text n f content

abbrev pub ClosesOrMemory : ℕ → Figures → Option Log → MemoryHost → List ℕ → Answer → Type 0
ClosesOrMemory n f log host text (Ok (Some x)) = Closes n f log host text x
ClosesOrMemory n f log host text (Err Memory) = Unit {0}
ClosesOrMemory n f log host text answer = ⊥

-- What is told of a run that a tool's fault ended.
pub record FailsBy (host : MemoryHost) (fault : RunFault) (text : List ℕ) (answer : Answer) : Type 0 where
  pub answers : answer ≡ not_for (Failed fault)
  pub of_tools : IsOfTools fault
  pub none_failed : (host_counts host).faults ≡ 0
  pub no_text : text ≡ []

-- what is told of a run by how it ended
abbrev pub TellsEnd : ℕ → Figures → End → Option Log → MemoryHost → List ℕ → Answer → Type 0
TellsEnd n f (Ok ended) log host text answer = ClosesOrMemory n f log host text answer
TellsEnd n f (Err fault) log host text answer = (answer ≡ not_for Memory) ⊎ FailsBy host fault text answer
