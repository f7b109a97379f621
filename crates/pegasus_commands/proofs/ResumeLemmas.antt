-- The answers of `resume`.
use Rattle.std.proofs.Common.{◌≡◌, ◌⊎◌, ℕ, ◌<◌, ◌++◌, ◌||◌, Bool, true, false, List, [], ◌∷◌, length, refl, sym, ap, subst, ◌∙◌, inl, inr}
use Rattle.std.specs.Prelude.{Option, Some, None, is_some, IfSome, MatchOption, Ok, Err}
use Rattle.std.specs.List.{list_any}
use Rattle.std.specs.FinMap as files
use Rattle.std.proofs.Math.Logic.{∥∥₁_elim, ∥∥₁_map}
use Rattle.std.proofs.lemmas.List.Folds.{list_any-append}
use Rattle.std.proofs.lemmas.Option.{slice_get_within}
use Rattle.values.specs.Apply.{Apply}
use Rattle.values.specs.declared.numbers.TaskId.{TaskId}
use Rattle.outside.specs.declared.store.Store.{Store}
use Rattle.plan_core.specs.declared.plan.Plan.{Plan}
use Rattle.plan_core.specs.declared.plan.TaskKind.{TaskKind}
use Rattle.plan_core.specs.declared.plan.TaskKind.TheVariants as kinds
use Rattle.plan_core.specs.declared.plan.Target.TheVariants as targets
use Rattle.plan_core.specs.code.Proper.{IsProper}
use Rattle.plan_core.specs.Words.{delivers, kind, kind_delivers, task_numbers}
use Rattle.plan_core.proofs.TestLemmas.{either, same_number}
use Rattle.run_record.specs.Events.{Event, Grant, Arrive, End, Clean, Fail, Again, Regrant}
use Rattle.run_record.specs.code.Fault.{IsMalformedAt}
use Rattle.run_record.specs.declared.run_fault.RunFault.TheVariants as run
use Rattle.lease_rules.specs.Legal.{Legal}
use Rattle.planner.specs.code.Deliveries.{DeliversRequests, IsNamed}
use Rattle.planner.specs.Deliveries.{IsRequested}
use Rattle.planner.specs.code.Meaning.{MeansWorkflow}
use Rattle.planner.specs.declared.surveyed.Surveyed.{Surveyed}
use Rattle.site_yard.specs.Changes.{carries}
use Rattle.site_yard.specs.code.Changes.{moved}
use Rattle.site_yard.specs.code.Kept.{IsOpening}
use Rattle.site_yard.specs.code.Law.{AgreesSince, Holds}
use Rattle.site_yard.specs.Law.{IsDeliveryOf}
use Rattle.plan_core.specs.Names.{file_name}
use Rattle.site_yard.specs.code.Places.{IsUndelivered, delivers_file, is_delivered}
use Rattle.site_yard.specs.code.Truthful.{IsLongAs, IsTrue, Truthful}
use Rattle.site_yard.proofs.PlanLemmas.{one_file}
use Rattle.plan_run.specs.code.Finishing.{NoneFailed}
use Rattle.plan_run.specs.Finishing.{replicas_of}
use Rattle.plan_run.specs.Moments.{Tools, Work}
use Rattle.resume_run.specs.Finishing.{CanEnd, IsDoneOrMemory as EndsOrMemory}
use Rattle.resume_run.specs.Replaying.{without_fails}
use Rattle.plan_run.specs.code.Running.{IsShown}
use Rattle.resume_run.specs.Resuming.{End as Ending, HasResumed, IsUnresumed, Resumes, Tells}
use Rattle.resume_run.specs.declared.resuming.ResumeFault.TheVariants as resumed
use Rattle.pegasus_commands.specs.declared.fault.CallFault.{CallFault}
use Rattle.pegasus_commands.specs.declared.fault.CallFault.TheVariants.{BadRecord, IllegalRecord, Memory, Refused}
use Rattle.pegasus_commands.specs.declared.recorded.Recorded.{Recorded}
use Rattle.pegasus_commands.specs.code.Commands.Audit.{IsUnread}
use Rattle.pegasus_commands.specs.code.Commands.Resume.{AllStand, CanResume, HasResumedPlan, IsBadRecord, IsGiven, RefusedWith, ResumesPlan, resume}
use Rattle.pegasus_commands.specs.code.CommandSpec.{Finishes, NoneRoseAtWork}
use Rattle.pegasus_commands.specs.code.Fault.{Answer, IsDoneOrMemory, done, not_for, resumed_answer}
use Rattle.pegasus_commands.specs.code.PlanRun.{AllDelivered, DeliversRequested, IsReady, IsUndone, RefusedAs}
use Rattle.pegasus_commands.specs.PlanRun.{ShownBy, lfn}
use Rattle.pegasus_commands.proofs.AuditLemmas.{NoneMalformed, OneRecord, no_bad_record, no_illegal_record}
use Rattle.pegasus_commands.proofs.FaultLemmas.{done_prop}
use Rattle.pegasus_commands.proofs.PlanRunLemmas.{HasDeliveryLaws, carried_if_delivered, delivered_so, named_in, refused_short, undone_is}
use Rattle.pegasus_commands.specs.code.Recorded.{record_of}
use Rattle.pegasus_commands.proofs.InputSpecLemmas.{finishes_over}

-- ---- what a record that says what is so has delivered

-- a task delivers the file, and carries something for it
abbrev IsCarriedFor : Plan → (ℕ → ℕ → Option (List ℕ)) → ℕ → Type 0
IsCarriedFor p c f = (t : ℕ) × (delivers p t f ≡ true) × (is_some (c t f) ≡ true)

some_if_long : (n : ℕ) (o : Option (List ℕ)) → IsLongAs n o → is_some o ≡ true
some_if_long n None h = absurd cc
some_if_long n (Some bytes) h = refl

moved_there : (v : ℕ → Option (List ℕ)) (k : Option TaskKind) (f n : ℕ) → kind_delivers k f ≡ true → IsLongAs n (moved v k) → is_some (v f) ≡ true
moved_there v None f n d h = absurd cc
moved_there v (Some (kinds.Run a js)) f n d h = absurd cc
moved_there v (Some (kinds.Clean q)) f n d h = absurd cc
moved_there v (Some (kinds.Transfer g from (targets.Site a))) f n d h = absurd cc
moved_there v (Some (kinds.Transfer g from targets.Delivery)) f n d h = subst (λ (x : ℕ). is_some (v x) ≡ true) (same_number g.0 f d) (some_if_long n (v g.0) h)

carried_here : (apply : Apply) (told : List ℕ → Option (List ℕ)) (p : Plan) (c : ℕ → ℕ → Option (List ℕ)) (e : Event) (f : ℕ) → IsTrue apply told p c e → delivers_file p f e ≡ true → IsCarriedFor p c f
carried_here apply told p c (Grant w t) f is h = absurd cc
carried_here apply told p c (Regrant w t) f is h = absurd cc
carried_here apply told p c (End w t ns) f is h = absurd cc
carried_here apply told p c (Clean w t) f is h = absurd cc
carried_here apply told p c (Fail w t cause ns) f is h = absurd cc
carried_here apply told p c (Again w t cause ns) f is h = absurd cc
carried_here apply told p c (Arrive w t n) f is h = (t, h, moved_there (c t) (kind p t) f n h is.0)

carried_in : (apply : Apply) (told : List ℕ → Option (List ℕ)) (p : Plan) (c : ℕ → ℕ → Option (List ℕ)) (r : List Event) (f : ℕ) → Truthful apply told p c r → is_delivered p r f ≡ true → IsCarriedFor p c f
unfolding is_delivered
carried_in apply told p c [] f is h = absurd cc
carried_in apply told p c (e ∷ r) f is h = elim (either (delivers_file p f e) (list_any (delivers_file p f) r) h) [
  | inl d ↦ carried_here apply told p c e f is.0 d
  | inr d ↦ carried_in apply told p c r f is.1 d
]

first_of : (a b : Bool) → (a || b) ≡ true → b ≡ false → a ≡ true
first_of true b h none = refl
first_of false b h none = absurd (let clash : true ≡ false = sym h ∙ none in cc)

-- what the whole record has delivered, and its last entries haven't, the first ones have
delivered_before : (p : Plan) (first r : List Event) (f : ℕ) → is_delivered p (first ++ r) f ≡ true → is_delivered p r f ≡ false → is_delivered p first f ≡ true
unfolding is_delivered
delivered_before p first r f h none = first_of (list_any (delivers_file p f) first) (list_any (delivers_file p f) r) (sym (list_any-append (delivers_file p f) first r) ∙ h) none

-- ---- what stands in the end

in_files : (s : Surveyed) (p : Plan) (f : ℕ) → IsNamed s.survey p f → f < length p.files
in_files s p f named = slice_get_within p.files f named.file named.is

-- no other file that was delivered has this file's name
apart : (s : Surveyed) (p : Plan) (order : List ℕ) (r : List Event) (f : ℕ) → IsProper p → HasDeliveryLaws p order → DeliversRequests s.request s.survey p → IsRequested s.survey f → is_delivered p r f ≡ false → IsUndelivered p r (file_name p f)
apart s p order r f proper laws requests here none = λ g h same.
    let asked : IsRequested s.survey g = requests.requested g (laws.only r g h) in
    let is : g ≡ f = one_file p proper g f (in_files s p g (requests.named g asked.in_range)) (in_files s p f (requests.named f here.in_range)) same in
    absurd (let clash : true ≡ false = sym h ∙ ap (is_delivered p r) is ∙ none in cc)

-- a requested file that the whole record has delivered stands as its delivery carries it
stands_at : (w : Work) (s : Surveyed) (p : Plan) (order : List ℕ) (first r : List Event) (m new : Store) → IsProper p → HasDeliveryLaws p order → DeliversRequests s.request s.survey p → IsOpening w.apply p first m → Holds w.apply p first r m new → DeliversRequested w s p r m new
    → (f : ℕ) → IsRequested s.survey f → is_delivered p (first ++ r) f ≡ true → IsDeliveryOf p (carries w.apply p m) f (files.get new.delivered (lfn s.survey f))
stands_at w s p order first r m new proper laws requests opening holds delivers_so f asked whole = by (is_delivered p r f) refl
  where
    c : ℕ → ℕ → Option (List ℕ)
    c = carries w.apply p m

    earlier : is_delivered p r f ≡ false → is_delivered p first f ≡ true → IsDeliveryOf p c f (files.get new.delivered (lfn s.survey f))
    earlier none before =
        let carried = carried_in w.apply (λ pfn. files.get m.replicas pfn) p c first f opening.truthful before in
        let there = holds.undelivered (file_name p f) (apart s p order r f proper laws requests asked none) ∙ opening.delivered carried.0 f carried.1 before in
        let is = subst (λ (name : List ℕ). files.get new.delivered name ≡ c carried.0 f) (named_in s p f (requests.named f asked.in_range)) there in
        (carried.0, carried.1, is, ap is_some is ∙ carried.2)

    by : (b : Bool) → is_delivered p r f ≡ b → IsDeliveryOf p c f (files.get new.delivered (lfn s.survey f))
    by true d = delivers_so.carried f d
    by false d = earlier d (delivered_before p first r f whole d)

all_stand : (w : Work) (s : Surveyed) (p : Plan) (order : List ℕ) (first r : List Event) (m new : Store) → IsProper p → HasDeliveryLaws p order → DeliversRequests s.request s.survey p → MeansWorkflow s.request s.survey p → IsOpening w.apply p first m → Holds w.apply p first r m new
    → AllDelivered s p (first ++ r) done → AllStand w s p m new
all_stand w s p order first r m new proper laws requests means opening holds all = record {
  carried = record { each = λ f asked. let d = at f asked in (d.3, d); others = others };
  valued = λ honest. record { each = λ f asked. let d = at f asked in (d.3, d.2 ∙ means w.apply (replicas_of m) honest d.0 f (carried_if_delivered p.jobs (kind p d.0) f d.1)); others = others };
}
  where
    delivers_so : DeliversRequested w s p r m new
    delivers_so = delivered_so w s p order r m new laws requests means (record { delivered = holds.delivered; undelivered = holds.undelivered })

    at : (f : ℕ) → IsRequested s.survey f → IsDeliveryOf p (carries w.apply p m) f (files.get new.delivered (lfn s.survey f))
    at f asked = stands_at w s p order first r m new proper laws requests opening holds delivers_so f asked (all f asked)

    others : (name : List ℕ) → ((f : ℕ) → IsRequested s.survey f → lfn s.survey f ≡ name → ⊥) → files.get new.delivered name ≡ files.get m.delivered name
    others name none = delivers_so.others name (λ f h e. none f (delivers_so.requested f h).0 e)

-- what two stores show where the first of them held the record
since_so : (w : Work) (p : Plan) (first r : List Event) (Shows : Store → Store → Type 0) → IsShown w p first r → ((m new : Store) → IsOpening w.apply p first m → Holds w.apply p first r m new → Shows m new) → ShownBy w (λ m new. IsOpening w.apply p first m → Shows m new)
since_so w p first r Shows shown so = by w.before.told w.after.told shown
  where
    by : (old new : Option Store) → IfSome old (λ m. MatchOption new ⊥ (λ x. AgreesSince w.apply p first r m x)) → IfSome old (λ m. MatchOption new ⊥ (λ x. IsOpening w.apply p first m → Shows m x))
    by None new h = tt
    by (Some m) None h = absurd h
    by (Some m) (Some x) h = λ opening. so m x opening (h.holds opening)

all_since : (w : Work) (s : Surveyed) (p : Plan) (order : List ℕ) (first r : List Event) (text : List ℕ) (e : Ending) → HasDeliveryLaws p order → DeliversRequests s.request s.survey p → Legal p order (first ++ r) → Tells w p order first r text e → AllDelivered s p (first ++ r) (resumed_answer e)
all_since w s p order first r text (Ok ended) laws requests legal tells = λ f asked. let task = requests.delivered f asked in laws.complete (first ++ r) legal tells.complete task.0 f task.1
all_since w s p order first r text (Err fault) laws requests legal tells = tt

-- ---- the answer

-- The record was gone on with.
resumed_is : (w : Work) (t : Tools) (i : Recorded) (p : Plan) (order : List TaskId) (given : List Event) (text : List ℕ) (e : Ending) → IsGiven w.known i p order given → HasDeliveryLaws p (task_numbers order) → DeliversRequests i.surveyed.request i.surveyed.survey p → MeansWorkflow i.surveyed.request i.surveyed.survey p
    → HasResumed w t p (task_numbers order) given text e → HasResumedPlan w t i text (resumed_answer e)
resumed_is w t i p order given text e is_given laws requests means h =
    let s = i.surveyed in
    let first = without_fails given in
    let r = h.gone_on.r in
    let shown = h.gone_on.run.shown in
    let all = all_since w s p (task_numbers order) first r text e laws requests h.gone_on.run.legal h.gone_on.tells in
    record {
      plan = p;
      order = order;
      given = given;
      is_given = is_given;
      end = e;
      run = h;
      answers = refl;
      delivers = since_so w p first r (DeliversRequested w s p r) shown (λ m new opening holds. delivered_so w s p (task_numbers order) r m new laws requests means (record { delivered = holds.delivered; undelivered = holds.undelivered }));
      complete = all;
      stands = λ is. since_so w p first r (AllStand w s p) shown (λ m new opening holds. all_stand w s p (task_numbers order) first r m new is_given.ready.proper laws requests means opening holds (subst (AllDelivered s p (first ++ r)) is all));
    }

-- It wasn't.
unresumed_is : (w : Work) (t : Tools) (i : Recorded) (p : Plan) (order : List TaskId) (given : List Event) (text : List ℕ) (e : Ending) → IsGiven w.known i p order given → IsUnresumed w t p (task_numbers order) given text e → IsUndone (RefusedWith w.known i) w t text (resumed_answer e)
unresumed_is w t i p order given text (Ok ended) is_given u = absurd u.why
unresumed_is w t i p order given text (Err (resumed.Illegal k)) is_given u = record {
  fault = IllegalRecord k;
  refused = record { plan = p; order = order; given = given; is_given = is_given; illegal = u.why };
  answers = refl;
  untouched = u.untouched;
  unused = u.unused;
  no_text = u.no_text;
}
unresumed_is w t i p order given text (Err (resumed.Failed run.Memory)) is_given u = record { fault = Memory; refused = tt; answers = refl; untouched = u.untouched; unused = u.unused; no_text = u.no_text }
unresumed_is w t i p order given text (Err (resumed.Failed fault)) is_given u = absurd u.why

pub resumes_so : (w : Work) (t : Tools) (i : Recorded) (p : Plan) (order : List TaskId) (given : List Event) (text : List ℕ) (e : Ending) → IsGiven w.known i p order given → HasDeliveryLaws p (task_numbers order) → DeliversRequests i.surveyed.request i.surveyed.survey p → MeansWorkflow i.surveyed.request i.surveyed.survey p
    → ∥ Resumes w t p (task_numbers order) given text e ∥₁ → ResumesPlan w t i text (resumed_answer e)
resumes_so w t i p order given text e is_given laws requests means came = ∥∥₁_map came by
  where
    by : Resumes w t p (task_numbers order) given text e → IsUndone (RefusedWith w.known i) w t text (resumed_answer e) ⊎ HasResumedPlan w t i text (resumed_answer e)
    by (inl u) = inl (unresumed_is w t i p order given text e is_given u)
    by (inr h) = inr (resumed_is w t i p order given text e is_given laws requests means h)

-- ---- why it wasn't

pub unready_with : (known : List ℕ → Bool) (i : Recorded) (fault : CallFault) → RefusedAs known i.surveyed fault → RefusedWith known i fault
unready_with known i Memory h = tt
unready_with known i (BadRecord k) (inl h) = absurd (no_bad_record k h.fault h.answers)
unready_with known i (BadRecord k) (inr h) = absurd (let clash : ◌≡◌ {A = CallFault} (BadRecord k) (Refused h.fault) = h.answers in cc)
unready_with known i (IllegalRecord k) (inl h) = absurd (no_illegal_record k h.fault h.answers)
unready_with known i (IllegalRecord k) (inr h) = absurd (let clash : ◌≡◌ {A = CallFault} (IllegalRecord k) (Refused h.fault) = h.answers in cc)
unready_with known i fault h = h

pub unread_with : (known : List ℕ → Bool) (i : Recorded) (p : Plan) (order : List TaskId) (fault : CallFault) → IsReady known i.surveyed p order → IsUnread i.bytes fault → RefusedWith known i fault
unread_with known i p order Memory ready h = tt
unread_with known i p order (BadRecord k) ready h = record { plan = p; order = order; ready = ready; malformed = h }
unread_with known i p order fault ready h = absurd h

-- Nothing was done.
pub unresumed : (w : Work) (t : Tools) (i : Recorded) (text : List ℕ) (a : Answer) (fault : CallFault) → RefusedWith w.known i fault → a ≡ not_for fault → w.after ≡ w.before → t.after ≡ t.before → text ≡ [] → ResumesPlan w t i text a
unresumed w t i text a fault refused is same unused none = ∣ inl (undone_is (RefusedWith w.known i) w t text a fault refused is same unused none) ∣₁

-- ---- what keeps it from Done

-- nothing but a counted failure, or want of memory, keeps a run that is gone on with from its end
abbrev pub ResumesFinish : Type 0
ResumesFinish = (w : Work) (t : Tools) (p : Plan) (order : List ℕ) (given : List Event) (text : List ℕ) (end : Ending) → IsProper p → CanEnd w p order given → NoneFailed w t 16 → Resumes w t p order given text end → EndsOrMemory end

can_end : (one : OneRecord) (w : Work) (i : Recorded) (p : Plan) (order : List TaskId) (given : List Event) → CanResume w i → IsGiven w.known i p order given → CanEnd w p (task_numbers order) given
can_end one w i p order given can is_given =
    let same = one can.given given can.is_record.entries is_given.is_record.entries (can.is_record.text ∙ sym is_given.is_record.text) in
    subst (CanEnd w p (task_numbers order)) same (can.ends p (task_numbers order) (record { planned = is_given.ready.planned; order_is = is_given.ready.order_is }))

not_bad : (law : NoneMalformed) (w : Work) (i : Recorded) (k : ℕ) → CanResume w i → IsBadRecord w.known i k → ⊥
not_bad law w i k can bad = law can.given k can.is_record.entries (subst (λ (text : List ℕ). IsMalformedAt text k) (sym can.is_record.text) bad.malformed)

undone_short : (law : ResumesFinish) (records : NoneMalformed) (one : OneRecord) (w : Work) (t : Tools) (i : Recorded) (fault : CallFault) → RefusedWith w.known i fault → w.after ≡ w.before → t.after ≡ t.before → CanResume w i → NoneFailed w t 16 → IsDoneOrMemory (not_for fault)
undone_short law records one w t i Memory refused untouched unused can still = tt
undone_short law records one w t i (BadRecord k) refused untouched unused can still = absurd (not_bad records w i k can refused)
undone_short law records one w t i (IllegalRecord k) refused untouched unused can still =
    absurd (law w t refused.plan (task_numbers refused.order) refused.given [] (Err (resumed.Illegal k)) refused.is_given.ready.proper (can_end one w i refused.plan refused.order refused.given can refused.is_given) still
    (inl (record { why = refused.illegal; untouched = untouched; unused = unused; no_text = refl })))
undone_short law records one w t i fault refused untouched unused can still = refused_short w.known i.surveyed fault refused can.no_fault can.tools

end_done : (e : Ending) → EndsOrMemory e → IsDoneOrMemory (resumed_answer e)
end_done (Ok ended) h = tt
end_done (Err (resumed.Failed run.Memory)) h = tt
end_done (Err (resumed.Failed fault)) h = absurd h
end_done (Err (resumed.Illegal k)) h = absurd h

resumed_done : (law : ResumesFinish) (one : OneRecord) (w : Work) (t : Tools) (i : Recorded) (text : List ℕ) (a : Answer) → HasResumedPlan w t i text a → CanResume w i → NoneFailed w t 16 → IsDoneOrMemory a
resumed_done law one w t i text a h can still =
    subst IsDoneOrMemory (sym h.answers) (end_done h.end (law w t h.plan (task_numbers h.order) h.given text h.end h.is_given.ready.proper (can_end one w i h.plan h.order h.given can h.is_given) still (inr h.run)))

resumes_done : (law : ResumesFinish) (records : NoneMalformed) (one : OneRecord) (w : Work) (t : Tools) (i : Recorded) (text : List ℕ) (a : Answer) → ResumesPlan w t i text a → CanResume w i → NoneRoseAtWork w t → IsDoneOrMemory a
resumes_done law records one w t i text a came can still = ∥∥₁_elim came (done_prop a) by
  where
    none_failed : NoneFailed w t 16
    none_failed = record { host = still.host; tools = λ k l. still.tools k }

    by : IsUndone (RefusedWith w.known i) w t text a ⊎ HasResumedPlan w t i text a → IsDoneOrMemory a
    by (inl u) = subst IsDoneOrMemory (sym u.answers) (undone_short law records one w t i u.fault u.refused u.untouched u.unused can none_failed)
    by (inr h) = resumed_done law one w t i text a h can none_failed

pub resume_finishes : ResumesFinish → NoneMalformed → OneRecord → (name history : List ℕ) → Finishes (resume name history)
resume_finishes law records one name history = finishes_over (record_of name history) ResumesPlan CanResume (resumes_done law records one)
