use Rattle.std.proofs.Common.{◌∙◌, ℕ, List, ap, subst}
use Rattle.outside.specs.code.Store.{blank}
use Rattle.values.specs.declared.documents.Documents.{Documents}
use Rattle.plan_request.specs.Request.{request_from_text}
use Rattle.planner.specs.code.Course.{Refuses}
use Rattle.planner.specs.code.PlanFault.{FailsPlan, answered}
use Rattle.planner.specs.declared.document.Document.TheVariants.{Request}
use Rattle.rehearsal.specs.Preparing.{stored}
use Rattle.rehearsal.specs.Registered.{RegistersImages}
use Rattle.rehearsal.proofs.PreparingLemmas.{is_prepared, montage_documents, montage_request, refuses_documents, refuses_request, want_of_memory}
use Rattle.rehearsal.proofs.preparing.prepare.Goals as goal

pub returns-in-Err-clause-fault : goal.returns-in-Err-clause-fault
returns-in-Err-clause-fault c =
    let fault = c.in-Err.fault in
    refuses_request c.args.images fault (subst (λ (text : List ℕ). FailsPlan fault (answered Request (request_from_text text))) c.in_ok-workload.ensures.request c.in-Err.ensures.answer)

pub returns-in-Err-survey_request-clause-fault : goal.returns-in-Err-survey_request-clause-fault
returns-in-Err-survey_request-clause-fault c =
    let n = c.args.images in
    let w = c.in_ok-workload.workload in
    let request = c.in-Ok.request in
    let fault = c.in-Err-survey_request.fault in
    refuses_documents n request fault (montage_request n w request c.in_ok-workload.ensures c.in-Ok.ensures.answer)
    (subst (λ (d : Documents). Refuses request d fault) (montage_documents n w c.in_ok-workload.ensures) c.in-Err-survey_request.ensures.fault)

pub returns-in-Ok-checked_host-clause-ready : goal.returns-in-Ok-checked_host-clause-ready
returns-in-Ok-checked_host-clause-ready c =
    let s = c.in-Ok-survey_request.surveyed in
    let same = c.deref.ensures.value in
    is_prepared c.args.images c.in_ok-workload.workload c.in-Ok.request s c.in-Ok-checked_host.host c.in_ok-workload.ensures c.in-Ok.ensures.answer c.in-Ok-survey_request.ensures.request c.in-Ok-survey_request.ensures.survey
    (subst (RegistersImages s.survey.workflow s.survey.replicas.entries) same c.in-Ok-checked_host.ensures.registers)
    c.in-Ok-checked_host.ensures.mosaic
    (c.in-Ok-checked_host.ensures.store ∙ ap (λ (xs : List (List ℕ × List ℕ)). stored xs blank) same)
    c.in-Ok-checked_host.ensures.counts
