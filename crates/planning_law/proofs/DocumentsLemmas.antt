-- Two surveys of the same documents say the same.
use Rattle.std.proofs.Common.{◌≡◌, ℕ, sym, ap, ◌∙◌}
use Rattle.std.specs.Prelude.{Ok, Result}
use Rattle.std.specs.List.{AllByRecursion}
use Rattle.values.specs.declared.documents.Documents.{Documents}
use Rattle.plan_request.specs.code.Limits.{IsRuntimeInRange}
use Rattle.plan_request.specs.declared.request.PlanRequest.{PlanRequest}
use Rattle.plan_core.specs.declared.plan.Plan.{Plan}
use Rattle.planner.specs.code.Course.{IsSurvey, SurveyEntry, said_by}
use Rattle.planner.specs.code.Planning.{IsPlanOf}
use Rattle.planner.specs.declared.inputs.Survey.{Survey}
use Rattle.planner.specs.declared.plan_fault.PlanFault.{PlanFault}
use Rattle.planning_law.proofs.PlansLemmas.{AreAlike, one_plan_of_alike}

one_said : (x y : SurveyEntry) → ◌≡◌ {A = Result SurveyEntry PlanFault} (Ok x) (Ok y) → x ≡ y
one_said x y e = cc

pub alike : (r : PlanRequest) (d : Documents) (s t : Survey) → IsSurvey r d s → IsSurvey r d t → AreAlike s t
alike r d s t one two = record {
  workflow = record {
    name = ap (λ (x : SurveyEntry). x.workflow.name) said;
    jobs = ap (λ (x : SurveyEntry). x.workflow.jobs) said;
    pairs = ap (λ (x : SurveyEntry). x.workflow.pairs) said;
    files = ap (λ (x : SurveyEntry). x.workflow.files) said;
    sizes = ap (λ (x : SurveyEntry). x.workflow.sizes) said;
  };
  replicas = ap (λ (x : SurveyEntry). x.replicas.entries) said;
  transformations = ap (λ (x : SurveyEntry). x.transformations) said;
}
  where
    said : said_by s.workflow s.sites s.replicas s.transformations ≡ said_by t.workflow t.sites t.replicas t.transformations
    said = one_said (said_by s.workflow s.sites s.replicas s.transformations) (said_by t.workflow t.sites t.replicas t.transformations) (sym one.says ∙ two.says)

pub one_plan_of_documents : (r : PlanRequest) (d : Documents) (s t : Survey) (limit : ℕ) (p q : Plan) → AllByRecursion IsRuntimeInRange r.runtimes → IsSurvey r d s → IsSurvey r d t → IsPlanOf r s limit p → IsPlanOf r t limit q → p ≡ q
one_plan_of_documents r d s t limit p q positive one two first second = one_plan_of_alike r s t limit p q one.graph two.graph positive (alike r d s t one two) first second
