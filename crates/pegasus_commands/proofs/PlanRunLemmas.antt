-- A run of a plan of the documents: what it delivers, and what keeps it from Done.
use Rattle.std.proofs.Common.{◌≡◌, ℕ, ◌≤◌, Bool, true, List, [], refl, sym, ap, subst, ◌∙◌, inl, inr, arith}
use Rattle.std.specs.Prelude.{Option, Some, None, IfSome, MatchOption, Ok, Err}
use Rattle.std.specs.FinMap as files
use Rattle.values.specs.declared.numbers.TaskId.{TaskId}
use Rattle.values.specs.declared.policy.Policy.{Policy}
use Rattle.outside.specs.declared.store.Store.{Store}
use Rattle.plan_core.specs.declared.plan.Plan.{Plan}
use Rattle.plan_core.specs.declared.plan.PlanJob.{PlanJob}
use Rattle.plan_core.specs.declared.plan.TaskKind.{TaskKind}
use Rattle.plan_core.specs.declared.plan.TaskKind.TheVariants.{Clean, Run, Transfer}
use Rattle.plan_core.specs.declared.plan.Target.TheVariants.{Delivery, Site}
use Rattle.plan_core.specs.code.Kinds.{kind_carries}
use Rattle.plan_core.specs.code.Proper.{IsProper}
use Rattle.plan_core.specs.Words.{delivers, kind, kind_delivers, retries, task_numbers}
use Rattle.lease_rules.specs.Legal.{IsComplete, Legal}
use Rattle.lease_rules.specs.State.{now}
use Rattle.run_record.specs.Events.{Event}
use Rattle.run_record.specs.declared.run_fault.RunFault.TheVariants as run
use Rattle.plan_request.specs.code.RunPolicy.{IsPolicyInRange}
use Rattle.planner.specs.code.Deliveries.{DeliversRequests, IsNamed}
use Rattle.planner.specs.Deliveries.{IsRequested}
use Rattle.planner.specs.code.Meaning.{MeansWorkflow}
use Rattle.planner.specs.code.Planning.{CannotPlan, IsPlanOf}
use Rattle.planner.specs.declared.plan_fault.PlanFault.{PlanFault}
use Rattle.planner.specs.declared.plan_fault.PlanFault.TheVariants as plan_faults
use Rattle.planner.specs.declared.surveyed.Surveyed.{Surveyed}
use Rattle.site_yard.specs.Changes.{carries}
use Rattle.site_yard.specs.code.Law.{AgreesSince, Holds}
use Rattle.site_yard.specs.Law.{IsDeliveryOf}
use Rattle.plan_core.specs.Names.{file_name, lfn_in}
use Rattle.site_yard.specs.code.Places.{IsUndelivered, is_delivered}
use Rattle.plan_run.specs.code.Finishing.{CanEnd, IsDoneOrMemory as EndsOrMemory, NoneFailed}
use Rattle.plan_run.specs.Finishing.{replicas_of}
use Rattle.plan_run.specs.Moments.{Tools, Work}
use Rattle.site_yard.proofs.AgreesLemmas.{opening_of_none}
use Rattle.plan_run.specs.code.Running.{End, HasRun, IsOpened, IsReport, IsShown, Report, Reports, Tells}
use Rattle.pegasus_commands.specs.declared.fault.CallFault.{CallFault}
use Rattle.pegasus_commands.specs.declared.fault.CallFault.TheVariants.{Memory}
use Rattle.pegasus_commands.specs.code.Commands.Plan.{HasNoFault, task_limit}
use Rattle.pegasus_commands.specs.code.Fault.{Answer, IsDoneOrMemory, done, end_answer, not_for, plan_answer, run_answer}
use Rattle.pegasus_commands.specs.code.KeptTools.{unknown_tool}
use Rattle.pegasus_commands.specs.code.PlanRun.{AllDelivered, CanRun, DeliversRequested, HasRunPlan, IsReady, IsUndone, IsUnrun, RefusedAs}
use Rattle.pegasus_commands.specs.PlanRun.{lfn}
use Rattle.pegasus_commands.proofs.FaultLemmas.{no_fault_is_done}

-- ---- what is delivered

-- what complete records have delivered, and what others may have
pub record HasDeliveryLaws (p : Plan) (order : List ℕ) : Type 0 where
  pub complete : (r : List Event) → Legal p order r → IsComplete p (now p order r) → (t f : ℕ) → delivers p t f ≡ true → is_delivered p r f ≡ true
  pub only : (r : List Event) (f : ℕ) → is_delivered p r f ≡ true → (t : ℕ) × (delivers p t f ≡ true)

pub named_in : (s : Surveyed) (p : Plan) (f : ℕ) → IsNamed s.survey p f → file_name p f ≡ lfn s.survey f
unfolding file_name
named_in s p f named = ap lfn_in named.is ∙ named.named

pub carried_if_delivered : (jobs : List PlanJob) (k : Option TaskKind) (f : ℕ) → kind_delivers k f ≡ true → kind_carries jobs k f ≡ true
carried_if_delivered jobs None f h = absurd cc
carried_if_delivered jobs (Some (Transfer g from Delivery)) f h = h
carried_if_delivered jobs (Some (Transfer g from (Site a))) f h = absurd cc
carried_if_delivered jobs (Some (Run a js)) f h = absurd cc
carried_if_delivered jobs (Some (Clean q)) f h = absurd cc

-- what a store shows of the deliveries of some entries
pub record ShowsDeliveries (w : Work) (p : Plan) (r : List Event) (m new : Store) : Type 0 where
  pub delivered : (f : ℕ) → is_delivered p r f ≡ true → IsDeliveryOf p (carries w.apply p m) f (files.get new.delivered (file_name p f))
  pub undelivered : (name : List ℕ) → IsUndelivered p r name → files.get new.delivered name ≡ files.get m.delivered name

pub delivered_so : (w : Work) (s : Surveyed) (p : Plan) (order : List ℕ) (r : List Event) (m new : Store) → HasDeliveryLaws p order → DeliversRequests s.request s.survey p → MeansWorkflow s.request s.survey p → ShowsDeliveries w p r m new → DeliversRequested w s p r m new
delivered_so w s p order r m new laws requests means shows = record {
  requested = λ f h. (asked f h, name_is f h);
  carried = λ f h. at f h;
  valued = λ honest f h. let d = at f h in d.2 ∙ means w.apply (replicas_of m) honest d.0 f (carried_if_delivered p.jobs (kind p d.0) f d.1);
  others = λ name none. shows.undelivered name (λ f h e. none f h (sym (name_is f h) ∙ e));
}
  where
    asked : (f : ℕ) → is_delivered p r f ≡ true → IsRequested s.survey f
    asked f h = requests.requested f (laws.only r f h)

    name_is : (f : ℕ) → is_delivered p r f ≡ true → file_name p f ≡ lfn s.survey f
    name_is f h = named_in s p f (requests.named f (asked f h).in_range)

    at : (f : ℕ) → is_delivered p r f ≡ true → IsDeliveryOf p (carries w.apply p m) f (files.get new.delivered (lfn s.survey f))
    at f h = subst (λ (n : List ℕ). IsDeliveryOf p (carries w.apply p m) f (files.get new.delivered n)) (name_is f h) (shows.delivered f h)

pub all_delivered : (w : Work) (s : Surveyed) (p : Plan) (order : List ℕ) (r : List Event) (e : End) → HasDeliveryLaws p order → DeliversRequests s.request s.survey p → Legal p order r → Tells w p order r e → AllDelivered s p r (end_answer e)
all_delivered w s p order r (Ok ended) laws requests legal tells = λ f asked. let task = requests.delivered f asked in laws.complete r legal tells.1 task.0 f task.1
all_delivered w s p order r (Err fault) laws requests legal tells = tt

pub shown_delivers : (w : Work) (s : Surveyed) (p : Plan) (order : List ℕ) (r : List Event) → HasDeliveryLaws p order → DeliversRequests s.request s.survey p → MeansWorkflow s.request s.survey p → IsShown w p [] r
    → IfSome w.before.told (λ m. IfSome w.after.told (λ new. DeliversRequested w s p r m new))
shown_delivers w s p order r laws requests means shown = by w.before.told w.after.told shown
  where
    by : (old new : Option Store) → IfSome old (λ m. MatchOption new ⊥ (λ x. AgreesSince w.apply p [] r m x)) → IfSome old (λ m. IfSome new (λ x. DeliversRequested w s p r m x))
    by None new h = tt
    by (Some m) None h = tt
    by (Some m) (Some x) h =
        let holds : Holds w.apply p [] r m x = h.holds (opening_of_none w.apply p m) in
        delivered_so w s p order r m x laws requests means (record { delivered = holds.delivered; undelivered = holds.undelivered })

-- ---- the plan

pub few_retries : (p : Plan) (c : Policy) → p.policy ≡ c → IsPolicyInRange c → retries p ≤ 10
unfolding retries
few_retries p c is small = let same : p.policy.retries ≡ c.retries = ap (λ (x : Policy). x.retries) is in let few : c.retries ≤ 10 = small.retries in omega (arith, same, few)

pub refused_as : (known : List ℕ → Bool) (s : Surveyed) (fault : PlanFault) → CannotPlan s.request s.survey task_limit fault → RefusedAs known s (plan_answer fault)
refused_as known s plan_faults.Memory h = tt
refused_as known s (plan_faults.Exceeds site task needed bound) h = inl (record { fault = plan_faults.Exceeds site task needed bound; comes = h; answers = refl })
refused_as known s fault h = inl (record { fault = fault; comes = h; answers = refl })

-- ---- the run

-- A plan was run.
abbrev pub run_is : (w : Work) (t : Tools) (n : ℕ) (s : Surveyed) (p : Plan) (order : List TaskId) (x : Report) (e : End) → IsReady w.known s p order → HasDeliveryLaws p (task_numbers order) → DeliversRequests s.request s.survey p → MeansWorkflow s.request s.survey p
    → HasRun w t n p (task_numbers order) x e → HasRunPlan w t n s x.text (end_answer e)
run_is w t n s p order x e ready laws requests means h = record {
  plan = p;
  order = order;
  ready = ready;
  end = e;
  report = x;
  ran = h;
  text_is = refl;
  answers = refl;
  delivers = shown_delivers w s p (task_numbers order) h.r laws requests means h.run.shown;
  complete = all_delivered w s p (task_numbers order) h.r e laws requests h.run.legal h.tells;
}

-- what is done has ended, and printed its record
pub ended_tells : (w : Work) (p : Plan) (order : List ℕ) (r : List Event) (e : End) → done ≡ end_answer e → Tells w p order r e → IsOpened w p × IsComplete p (now p order r)
ended_tells w p order r (Ok x) is tells = tells
ended_tells w p order r (Err fault) is tells = absurd (no_fault_is_done (run_answer fault) is)

pub ended_reports : (w : Work) (p : Plan) (r : List Event) (x : Report) (e : End) → done ≡ end_answer e → Reports w.apply p r w.before.told x e → IsReport w.apply p r w.before.told x
ended_reports w p r x (Ok ended) is reports = reports
ended_reports w p r x (Err fault) is reports = absurd (no_fault_is_done (run_answer fault) is)

-- Nothing was done.
pub undone_is : (Refuses : CallFault → Type 0) (w : Work) (t : Tools) (text : List ℕ) (a : Answer) (fault : CallFault) → Refuses fault → a ≡ not_for fault → w.after ≡ w.before → t.after ≡ t.before → text ≡ [] → IsUndone Refuses w t text a
undone_is Refuses w t text a fault refused is same unused none = record { fault = fault; refused = refused; answers = is; untouched = same; unused = unused; no_text = none }

-- Nothing was run.
pub unrun_is : (w : Work) (t : Tools) (s : Surveyed) (text : List ℕ) (a : Answer) (fault : CallFault) → RefusedAs w.known s fault → a ≡ not_for fault → w.after ≡ w.before → t.after ≡ t.before → text ≡ [] → IsUnrun w t s text a
unrun_is w t s text a fault refused is same unused none = undone_is (RefusedAs w.known s) w t text a fault refused is same unused none

-- ---- what keeps it from Done

-- nothing but a counted failure, or want of memory, keeps a run from its end
abbrev pub RunsFinish : Type 0
RunsFinish = (w : Work) (t : Tools) (n : ℕ) (p : Plan) (order : List ℕ) (x : Report) (end : End) → IsProper p → CanEnd w p → NoneFailed w t n → HasRun w t n p order x end → EndsOrMemory end

end_done : (e : End) → EndsOrMemory e → IsDoneOrMemory (end_answer e)
end_done (Ok ended) h = tt
end_done (Err run.Memory) h = tt
end_done (Err fault) h = absurd h

pub plan_run_finishes : (law : RunsFinish) (w : Work) (t : Tools) (n : ℕ) (s : Surveyed) (text : List ℕ) (a : Answer) → HasRunPlan w t n s text a → CanRun w s → NoneFailed w t n → IsDoneOrMemory a
plan_run_finishes law w t n s text a h can none = subst IsDoneOrMemory (sym h.answers) (end_done h.end (law w t n h.plan (task_numbers h.order) h.report h.end h.ready.proper (can.plan h.plan h.ready.planned).ends none h.ran))

-- where planning has no fault and the tools of each plan are known, nothing but want of memory keeps a plan from being run
pub refused_short : (known : List ℕ → Bool) (s : Surveyed) (fault : CallFault) → RefusedAs known s fault → HasNoFault s → ((p : Plan) → IsPlanOf s.request s.survey task_limit p → unknown_tool known p.jobs ≡ None) → IsDoneOrMemory (not_for fault)
refused_short known s Memory h none tools = tt
refused_short known s fault (inl h) none tools = subst (λ (f : CallFault). IsDoneOrMemory (not_for f)) (sym (h.answers ∙ ap plan_answer (none h.fault h.comes))) tt
refused_short known s fault (inr h) none tools = absurd (let clash : ◌≡◌ {A = Option PlanFault} None (Some h.fault) = sym (tools h.plan h.planned) ∙ h.first in cc)

pub unrun_finishes : (w : Work) (t : Tools) (s : Surveyed) (text : List ℕ) (a : Answer) → IsUnrun w t s text a → CanRun w s → IsDoneOrMemory a
unrun_finishes w t s text a h can = subst IsDoneOrMemory (sym h.answers) (refused_short w.known s h.fault h.refused can.no_fault (λ p planned. (can.plan p planned).tools))
