use Rattle.std.proofs.Common.{refl, sym, subst}
use Rattle.plan_request.specs.declared.request.PlanRequest.{PlanRequest}
use Rattle.planner.specs.code.Course.{IsSurvey}
use Rattle.pegasus_commands.proofs.ensembles.survey_member.Goals as goal

pub returns-in-Ok-clause-member : goal.returns-in-Ok-clause-member
returns-in-Ok-clause-member c = λ plain.
    let s = c.in-Ok.field-0 in
    let d = c.args.requested.documents in
    c.surveyed_members_are_members.ensures (record { name = c.args.name; request = s.request; survey = s.survey }) s d plain refl refl
    (subst (λ (q : PlanRequest). IsSurvey q d s.survey) (sym c.in-Ok.ensures.request) c.in-Ok.ensures.survey)
