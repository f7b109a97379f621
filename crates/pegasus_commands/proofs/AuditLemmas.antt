-- The answers of `audit` and `stat`.
use Rattle.std.proofs.Common.{◌≡◌, ℕ, ◌++◌, List, [], refl, sym, ap, subst, ◌∙◌}
use Rattle.std.specs.Prelude.{Result, Ok, Err, OnOk}
use Rattle.std.proofs.lemmas.List.{append_assoc}
use Rattle.values.specs.declared.memory.Memory.{Memory as Lacks}
use Rattle.plan_core.specs.declared.plan.Plan.{Plan}
use Rattle.plan_core.specs.Words.{task_numbers}
use Rattle.planner.specs.declared.plan_fault.PlanFault.{PlanFault}
use Rattle.planner.specs.declared.plan_fault.PlanFault.TheVariants as plan_faults
use Rattle.planner.specs.declared.surveyed.Surveyed.{Surveyed}
use Rattle.plan_run.specs.Moments.{Tools, Work}
use Rattle.plan_run.specs.RunText.{delivered_lines}
use Rattle.run_record.specs.Events.{Event}
use Rattle.run_record.specs.code.Fault.{IsMalformedAt}
use Rattle.run_record.specs.code.RecordText.{AreEntries}
use Rattle.run_record.specs.RecordText.{record_text}
use Rattle.lease_rules.specs.Legal.{IsComplete, Legal}
use Rattle.lease_rules.specs.State.{now}
use Rattle.record_audit.specs.Part.{record_part}
use Rattle.record_audit.specs.Sums.{AreSums}
use Rattle.record_audit.specs.Text.{statistics_lines, verdict_line}
use Rattle.record_audit.specs.declared.sums.Statistics.{Statistics}
use Rattle.record_audit.specs.Verdict.{IsJudged}
use Rattle.record_audit.specs.declared.verdict.Verdict.{Verdict}
use Rattle.record_audit.specs.declared.verdict.Verdict.TheVariants as verdict
use Rattle.pegasus_commands.specs.declared.fault.CallFault.{CallFault}
use Rattle.pegasus_commands.specs.declared.fault.CallFault.TheVariants.{BadRecord, IllegalRecord, Memory}
use Rattle.pegasus_commands.specs.declared.recorded.Recorded.{Recorded}
use Rattle.pegasus_commands.specs.code.Commands.Audit.{CanJudge, IsBad, IsJudgment, IsOrdered, IsUnjudged, IsUnread, Judges, PrintsVerdict, SaysOf, audit}
use Rattle.pegasus_commands.specs.code.Commands.Plan.{IsRefusal, IsUnplanned}
use Rattle.pegasus_commands.specs.code.Commands.Stat.{AddsSums, PrintsSums, stat}
use Rattle.pegasus_commands.specs.code.CommandSpec.{Finishes}
use Rattle.pegasus_commands.specs.code.Fault.{Answer, IsDoneOrMemory, done, not_for, plan_answer}
use Rattle.pegasus_commands.specs.code.PlanRun.{HasRunPlan}
use Rattle.pegasus_commands.proofs.PlanRunLemmas.{ended_reports, ended_tells}
use Rattle.pegasus_commands.specs.code.Recorded.{record_of}
use Rattle.pegasus_commands.proofs.InputSpecLemmas.{finishes_over}

-- no fault of planning is a bad record
pub no_bad_record : (k : ℕ) (fault : PlanFault) → BadRecord k ≡ plan_answer fault → ⊥
no_bad_record k plan_faults.Memory e = (let clash : ◌≡◌ {A = CallFault} (BadRecord k) Memory = e in absurd cc)
no_bad_record k (plan_faults.Exceeds site task needed bound) e = absurd cc
no_bad_record k fault e = absurd cc

-- nor an illegal one
pub no_illegal_record : (k : ℕ) (fault : PlanFault) → IllegalRecord k ≡ plan_answer fault → ⊥
no_illegal_record k plan_faults.Memory e = (let clash : ◌≡◌ {A = CallFault} (IllegalRecord k) Memory = e in absurd cc)
no_illegal_record k (plan_faults.Exceeds site task needed bound) e = absurd cc
no_illegal_record k fault e = absurd cc

pub refusal_unjudged : (i : Recorded) (fault : CallFault) → IsRefusal i.surveyed fault → IsUnjudged i fault
refusal_unjudged i Memory h = tt
refusal_unjudged i (BadRecord k) h = absurd (no_bad_record k h.fault h.answers)
refusal_unjudged i fault h = h

pub unread_unjudged : (i : Recorded) (p : Plan) (order : List ℕ) (fault : CallFault) → IsOrdered i.surveyed p order → IsUnread i.bytes fault → IsUnjudged i fault
unread_unjudged i p order Memory ordered h = tt
unread_unjudged i p order (BadRecord k) ordered h = record { plan = p; order = order; ordered = ordered; malformed = h }
unread_unjudged i p order fault ordered h = absurd h

pub says_unjudged : (Prints : Plan → List ℕ → List Event → Verdict → List ℕ → Type 0) (i : Recorded) (fault : CallFault) → IsUnjudged i fault → SaysOf Prints i [] (not_for fault)
says_unjudged Prints i Memory h = tt
says_unjudged Prints i fault h = (h, refl)

pub says_none : (Prints : Plan → List ℕ → List Event → Verdict → List ℕ → Type 0) (i : Recorded) (fault : CallFault) (text : List ℕ) (a : Answer) → IsUnjudged i fault → text ≡ [] → a ≡ not_for fault → SaysOf Prints i text a
says_none Prints i fault text a h none is = rw (none, is) (says_unjudged Prints i fault h)

pub says_memory : (Prints : Plan → List ℕ → List Event → Verdict → List ℕ → Type 0) (i : Recorded) (text : List ℕ) (a : Answer) → a ≡ not_for Memory → SaysOf Prints i text a
says_memory Prints i text a is = subst (SaysOf Prints i text) (sym is) tt

-- what is printed of a verdict
pub adds_so : (result : Result (Unit {0}) Lacks) (p : Plan) (order : List ℕ) (r : List Event) (sums : Statistics) (front text : List ℕ) → AreSums p order r sums → OnOk result (text ≡ front ++ statistics_lines sums) → OnOk result (AddsSums p order r front text)
adds_so (Ok x) p order r sums front text are h = (sums, are, h)
adds_so (Err e) p order r sums front text are h = tt

pub prints_legal : (p : Plan) (order : List ℕ) (r : List Event) (v : Verdict) (front text : List ℕ) → v ≡ verdict.Legal → front ≡ verdict_line v → AddsSums p order r front text → PrintsSums p order r v text
prints_legal p order r v front text is f h = rw is (subst (λ (z : List ℕ). AddsSums p order r z text) (f ∙ ap verdict_line is) h)

pub prints_complete : (p : Plan) (order : List ℕ) (r : List Event) (v : Verdict) (front text : List ℕ) → v ≡ verdict.Complete → front ≡ verdict_line v → AddsSums p order r front text → PrintsSums p order r v text
prints_complete p order r v front text is f h = rw is (subst (λ (z : List ℕ). AddsSums p order r z text) (f ∙ ap verdict_line is) h)

-- ---- what keeps them from Done

-- no line of a record's text is malformed
abbrev pub NoneMalformed : Type 0
NoneMalformed = (es : List Event) (k : ℕ) → AreEntries es → IsMalformedAt (record_text es) k → ⊥

not_bad : (law : NoneMalformed) (w : Work) (i : Recorded) (k : ℕ) → CanJudge w i → IsBad i k → ⊥
not_bad law w i k can bad = law can.history k can.is_record.entries (subst (λ (text : List ℕ). IsMalformedAt text k) (sym can.is_record.text) bad.malformed)

unplanned_short : (w : Work) (i : Recorded) (fault : CallFault) → CanJudge w i → IsUnplanned i.surveyed fault → IsDoneOrMemory (not_for fault)
unplanned_short w i fault can h = subst (λ (f : CallFault). IsDoneOrMemory (not_for f)) (sym (h.answers ∙ ap plan_answer (can.no_fault h.fault h.comes))) tt

unjudged_short : (law : NoneMalformed) (w : Work) (i : Recorded) (fault : CallFault) → CanJudge w i → IsUnjudged i fault → IsDoneOrMemory (not_for fault)
unjudged_short law w i Memory can h = tt
unjudged_short law w i (BadRecord k) can h = absurd (not_bad law w i k can h)
unjudged_short law w i fault can h = unplanned_short w i fault can h

says_done : (law : NoneMalformed) (Prints : Plan → List ℕ → List Event → Verdict → List ℕ → Type 0) (w : Work) (i : Recorded) (text : List ℕ) (a : Answer) → SaysOf Prints i text a → CanJudge w i → IsDoneOrMemory a
says_done law Prints w i text (Ok given) h can = tt
says_done law Prints w i text (Err Memory) h can = tt
says_done law Prints w i text (Err fault) h can = unjudged_short law w i fault can h.0

pub audit_finishes : NoneMalformed → (name history : List ℕ) → Finishes (audit name history)
audit_finishes law name history = finishes_over (record_of name history) (Judges PrintsVerdict) CanJudge (λ w t i text a works can still. says_done law PrintsVerdict w i text a works.says can)

pub stat_finishes : NoneMalformed → (name history : List ℕ) → Finishes (stat name history)
stat_finishes law name history = finishes_over (record_of name history) (Judges PrintsSums) CanJudge (λ w t i text a works can still. says_done law PrintsSums w i text a works.says can)

-- ---- the record that a run has printed

abbrev pub OneVerdict : Type 0
OneVerdict = (p : Plan) (order : List ℕ) (r : List Event) (v : Verdict) → Legal p order r → IsComplete p (now p order r) → IsJudged p order r v → v ≡ verdict.Complete

abbrev pub ReadsRecord : Type 0
ReadsRecord = (r : List Event) (rest : List ℕ) → AreEntries r → record_part (record_text r ++ rest) ≡ record_text r

abbrev pub OneRecord : Type 0
OneRecord = (es fs : List Event) → AreEntries es → AreEntries fs → record_text es ≡ record_text fs → es ≡ fs

pub judged_so : (one : OneVerdict) (reads : ReadsRecord) (same : OneRecord) (w : Work) (t : Tools) (n : ℕ) (s : Surveyed) (text rest : List ℕ) (run : HasRunPlan w t n s text done) (i : Recorded) (r : List Event) (v : Verdict)
    → i.bytes ≡ text ++ rest → IsJudgment i run.plan (task_numbers run.order) r v → (r ≡ run.ran.r) × (v ≡ verdict.Complete)
judged_so one reads same w t n s text rest run i r v bytes judgment =
    let report = ended_reports w run.plan run.ran.r run.report run.end run.answers run.ran.reports in
    let more = delivered_lines run.plan report.text.delivered in
    let written : i.bytes ≡ record_text run.ran.r ++ (more ++ rest) = bytes ∙ ap (λ (l : List ℕ). l ++ rest) (run.text_is ∙ report.text.text_is) ∙ append_assoc (record_text run.ran.r) more rest in
    let read : record_text r ≡ record_text run.ran.r = judgment.is_record.text ∙ ap record_part written ∙ reads run.ran.r (more ++ rest) report.entries in
    let is = same r run.ran.r judgment.is_record.entries report.entries read in
    let complete = (ended_tells w run.plan (task_numbers run.order) run.ran.r run.end run.answers run.ran.tells).1 in
    (is, one run.plan (task_numbers run.order) run.ran.r v run.ran.run.legal complete (subst (λ (es : List Event). IsJudged run.plan (task_numbers run.order) es v) is judgment.judged))
