-- What a run has printed is judged by its own plan and order.
use Rattle.std.proofs.Common.{◌≡◌, ℕ, ◌++◌, List, sym, subst, ◌∙◌}
use Rattle.plan_core.specs.declared.plan.Plan.{Plan}
use Rattle.plan_core.specs.Words.{task_numbers}
use Rattle.plan_request.specs.declared.request.PlanRequest.{PlanRequest}
use Rattle.storage_simulation.specs.code.Ordering.{IsOrder}
use Rattle.storage_simulation.specs.Ordering.{at_start}
use Rattle.storage_simulation.proofs.DeterminedLemmas.{order_same}
use Rattle.planner.specs.code.Course.{IsSurvey}
use Rattle.planner.specs.declared.surveyed.Surveyed.{Surveyed}
use Rattle.planner.specs.code.Planning.{IsPlanOf}
use Rattle.run_record.specs.Events.{Event}
use Rattle.record_audit.specs.declared.verdict.Verdict.{Verdict}
use Rattle.record_audit.specs.declared.verdict.Verdict.TheVariants as verdicts
use Rattle.plan_run.specs.Moments.{Tools, Work}
use Rattle.pegasus_commands.specs.declared.course.Requested.{Requested}
use Rattle.pegasus_commands.specs.declared.recorded.Recorded.{Recorded}
use Rattle.pegasus_commands.specs.code.Commands.Audit.{IsJudgment, IsOrdered}
use Rattle.pegasus_commands.specs.code.Commands.Plan.{task_limit}
use Rattle.pegasus_commands.specs.code.Fault.{done}
use Rattle.pegasus_commands.specs.code.PlanRun.{HasRunPlan}
use Rattle.pegasus_commands.specs.code.Survey.{IsSurveyed}
use Rattle.pegasus_commands.proofs.AuditLemmas.{OneRecord, OneVerdict, ReadsRecord, judged_so}
use Rattle.planning_law.proofs.DocumentsLemmas.{one_plan_of_documents}
use Rattle.planning_law.proofs.PlansLemmas.{one_plan}

one_order_of : (p q : Plan) (xs ys : List ℕ) → p ≡ q → IsOrder p at_start xs → IsOrder q at_start ys → xs ≡ ys
one_order_of p q xs ys plan one two = order_same q at_start xs ys (subst (λ (x : Plan). IsOrder x at_start xs) plan one) two

-- the plan and the order of a request and a survey
pub one_ordering : (s : Surveyed) (p q : Plan) (xs ys : List ℕ) → IsOrdered s p xs → IsOrdered s q ys → (p ≡ q) × (xs ≡ ys)
one_ordering s p q xs ys one two = (plan, one_order_of p q xs ys plan one.order_is two.order_is)
  where
    plan : p ≡ q
    plan = one_plan s.request s.survey task_limit p q s.graph s.limits.runtimes one.planned two.planned

-- the plan and the order of a request and its documents
pub one_ordering_of_documents : (given : Requested) (s t : Surveyed) (p q : Plan) (xs ys : List ℕ) → IsSurveyed given s → IsSurveyed given t → IsOrdered s p xs → IsOrdered t q ys → (p ≡ q) × (xs ≡ ys)
one_ordering_of_documents given s t p q xs ys first second one two = (plan, one_order_of p q xs ys plan one.order_is two.order_is)
  where
    turned : t.request ≡ s.request
    turned = second.request ∙ sym first.request

    plan : p ≡ q
    plan = one_plan_of_documents s.request given.documents s.survey t.survey task_limit p q s.limits.runtimes
        (subst (λ (r : PlanRequest). IsSurvey r given.documents s.survey) (sym first.request) first.survey)
        (subst (λ (r : PlanRequest). IsSurvey r given.documents t.survey) (sym first.request) second.survey)
        one.planned (subst (λ (r : PlanRequest). IsPlanOf r t.survey task_limit q) turned two.planned)

pub printed_is_complete : (one : OneVerdict) (reads : ReadsRecord) (same : OneRecord) (w : Work) (t : Tools) (n : ℕ) (given : Requested) (s : Surveyed) (text rest : List ℕ) (run : HasRunPlan w t n s text done) (i : Recorded) (p : Plan) (order : List ℕ)
    (r : List Event) (v : Verdict) → IsSurveyed given s → IsSurveyed given i.surveyed → i.bytes ≡ text ++ rest → IsJudgment i p order r v → (r ≡ run.ran.r) × (v ≡ verdicts.Complete)
printed_is_complete one reads same w t n given s text rest run i p order r v first second bytes judgment = judged_so one reads same w t n s text rest run i r v bytes own
  where
    ready : IsOrdered s run.plan (task_numbers run.order)
    ready = record { planned = run.ready.planned; order_is = run.ready.order_is }

    is : (p ≡ run.plan) × (order ≡ task_numbers run.order)
    is = one_ordering_of_documents given i.surveyed s p run.plan order (task_numbers run.order) second first judgment.ordered ready

    own : IsJudgment i run.plan (task_numbers run.order) r v
    own = subst (λ (q : Plan). IsJudgment i q (task_numbers run.order) r v) is.0 (subst (λ (xs : List ℕ). IsJudgment i p xs r v) is.1 judgment)
