-- `resume`: goes on with the run of a plan from its printed record, with one worker, after the tasks that were open are done
-- by their own workers. It prints the whole record, and what was delivered since.
use Rattle.std.specs.Prelude.{◌≡◌, ◌⊎◌, ℕ, ◌++◌, Bool, List, None}
use Rattle.values.specs.declared.numbers.TaskId.{TaskId}
use Rattle.outside.specs.declared.store.Store.{Store}
use Rattle.plan_core.specs.declared.plan.Plan.{Plan}
use Rattle.plan_core.specs.Words.{task_numbers}
use Rattle.planner.specs.code.Planning.{IsPlanOf}
use Rattle.planner.specs.declared.surveyed.Surveyed.{Surveyed}
use Rattle.run_record.specs.Events.{Event}
use Rattle.run_record.specs.code.Fault.{IsMalformedAt}
use Rattle.site_yard.specs.Changes.{carries}
use Rattle.site_yard.specs.code.Kept.{IsOpening}
use Rattle.site_yard.specs.Law.{IsDeliveryOf}
use Rattle.record_audit.specs.Part.{record_part}
use Rattle.record_audit.specs.Verdict.{IsIllegalAt}
use Rattle.plan_run.specs.Moments.{Tools, Work}
use Rattle.resume_run.specs.Finishing.{CanEnd}
use Rattle.resume_run.specs.Replaying.{without_fails}
use Rattle.resume_run.specs.Resuming.{End, HasResumed}
use Rattle.pegasus_commands.specs.declared.fault.CallFault.{CallFault}
use Rattle.pegasus_commands.specs.declared.fault.CallFault.TheVariants.{BadRecord, IllegalRecord, Memory}
use Rattle.pegasus_commands.specs.declared.recorded.Recorded.{Recorded}
use Rattle.pegasus_commands.specs.code.Commands.Audit.{IsOrdered, IsRecordOf}
use Rattle.pegasus_commands.specs.code.Commands.Plan.{HasNoFault, task_limit}
use Rattle.pegasus_commands.specs.code.CommandSpec.{CommandSpec}
use Rattle.pegasus_commands.specs.code.Fault.{Answer, done, resumed_answer}
use Rattle.pegasus_commands.specs.code.KeptTools.{unknown_tool}
use Rattle.pegasus_commands.specs.code.PlanRun.{AllDelivered, DeliversRequested, IsReady, IsUndone, RefusedAs}
use Rattle.pegasus_commands.specs.PlanRun.{AreHonestIn, AreSet, ShownBy, value_in}
use Rattle.pegasus_commands.specs.code.Recorded.{over_record}

-- A plan of the documents with its order, all of whose tools are known, and the record that stands at the front of the bytes.
pub record IsGiven (known : List ℕ → Bool) (i : Recorded) (p : Plan) (order : List TaskId)
    (given : List Event) : Type 0 where
  pub ready : IsReady known i.surveyed p order
  pub is_record : IsRecordOf i.bytes given

-- ---- why nothing is done

-- There is such a plan, and the bytes are no record's: this is the number of the first malformed line.
pub record IsBadRecord (known : List ℕ → Bool) (i : Recorded) (k : ℕ) : Type 0 where
  pub plan : Plan
  pub order : List TaskId
  pub ready : IsReady known i.surveyed plan order
  pub malformed : IsMalformedAt (record_part i.bytes) k

-- There is such a plan and a record, and this is the number of its first entry that isn't allowed.
pub record IsIllegal (known : List ℕ → Bool) (i : Recorded) (k : ℕ) : Type 0 where
  pub plan : Plan
  pub order : List TaskId
  pub given : List Event
  pub is_given : IsGiven known i plan order given
  pub illegal : IsIllegalAt plan (task_numbers order) given k

-- The record is no record or not a Legal one, or nothing can be run, as for `alone`; or memory ran out.
abbrev pub RefusedWith : (List ℕ → Bool) → Recorded → CallFault → Type 0
RefusedWith known i Memory = Unit {0}
RefusedWith known i (BadRecord k) = IsBadRecord known i k
RefusedWith known i (IllegalRecord k) = IsIllegal known i k
RefusedWith known i answer = RefusedAs known i.surveyed answer

-- ---- what is done

-- The store held what the record said as it was gone on with: of that it can't be known but where the host tells.
abbrev pub HeldRecord : Work → Plan → List Event → Store → Type 0
HeldRecord w p given old = IsOpening w.apply p (without_fails given) old

-- Each requested file stands as its delivery carries it, and as its value where the replicas are honest; every other name is
-- as it was.
pub record AllStand (w : Work) (s : Surveyed) (p : Plan) (old new : Store) : Type 0 where
  pub carried : AreSet s (IsDeliveryOf p (carries w.apply p old)) old.delivered new.delivered
  pub valued : AreHonestIn w s old
      → AreSet s (λ f content. content ≡ value_in w s old f) old.delivered new.delivered

-- The record of the bytes was gone on with by a plan of the documents.
pub record HasResumedPlan (w : Work) (t : Tools) (i : Recorded) (text : List ℕ)
    (answer : Answer) : Type 0 where
  pub plan : Plan
  pub order : List TaskId
  pub given : List Event
  pub is_given : IsGiven w.known i plan order given
  pub end : End
  pub run : HasResumed w t plan (task_numbers order) given text end
  pub answers : answer ≡ resumed_answer end
  -- whatever the answer, each file that was delivered since is a requested one under its name, as its delivery carries it
  pub delivers : ShownBy w (λ old new. HeldRecord w plan given old
      → DeliversRequested w i.surveyed plan run.gone_on.r old new)
  -- where all is done, each requested file is delivered, by the whole record
  pub complete : AllDelivered i.surveyed plan (without_fails given ++ run.gone_on.r) answer
  -- so each of them stands at its name, also what was delivered before
  pub stands : answer ≡ done → ShownBy w (λ old new. HeldRecord w plan given old
      → AllStand w i.surveyed plan old new)

-- It was gone on with, or why not.
abbrev pub ResumesPlan : Work → Tools → Recorded → List ℕ → Answer → Type 0
ResumesPlan w t i text answer = ∥ (IsUndone (RefusedWith w.known i) w t text answer
    ⊎ HasResumedPlan w t i text answer) ∥₁

-- Planning has no fault and the tools of its plan are known; the bytes are a record's, and nothing keeps a run by the plan
-- and its order from going on from it to the end.
pub record CanResume (w : Work) (i : Recorded) : Type 0 where
  pub no_fault : HasNoFault i.surveyed
  pub tools : (p : Plan) → IsPlanOf i.surveyed.request i.surveyed.survey task_limit p
      → unknown_tool w.known p.jobs ≡ None
  pub given : List Event
  pub is_record : IsRecordOf i.bytes given
  pub ends : (p : Plan) (order : List ℕ) → IsOrdered i.surveyed p order → CanEnd w p order given

abbrev pub resume : List ℕ → List ℕ → CommandSpec
resume name history = over_record name history ResumesPlan CanResume
