-- The schedule of a request, or the first kept job by number that has no site.
use Rattle.std.specs.Prelude.{Bool, List}
use Rattle.workflow_core.specs.declared.workflow.Workflow.{Workflow}
use Rattle.transformation_catalog.specs.declared.catalog.TransformationCatalog.{TransformationCatalog}
use Rattle.plan_request.specs.declared.request.PlanRequest.{PlanRequest}
use Rattle.list_schedule.specs.Estimates.{Estimates}
use Rattle.heft_selector.specs.Costs.{time, move}
use Rattle.heft_selector.specs.Candidates.{Offering, offering, candidates_at}

abbrev pub offering_of : Workflow → List Bool → PlanRequest → TransformationCatalog → Offering
offering_of w kept r t = offering w.jobs kept r.execute t

-- what a schedule of a request is estimated by
abbrev pub estimates : Workflow → List Bool → PlanRequest → TransformationCatalog → Estimates
estimates w kept r t =
    record { candidates = candidates_at (offering_of w kept r t); time = time w r; move = move w r }
