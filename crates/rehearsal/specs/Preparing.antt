-- The workload of n images, surveyed, and a store that holds its images alone.
use Rattle.std.specs.Prelude.{◌≡◌, ◌⊎◌, ℕ, List, [], ◌∷◌, codes, slice_index_or, Option, Some, Ok, Err}
use Rattle.std.specs.FinMap as files
use Rattle.values.specs.Apply.{Apply}
use Rattle.values.specs.declared.documents.Documents.{Documents}
use Rattle.outside.specs.code.Counts.{no_calls}
use Rattle.outside.specs.code.MemoryHost.{host_counts, host_store, with_replica}
use Rattle.outside.specs.code.Store.{blank}
use Rattle.outside.specs.declared.store.Store.{Store}
use Rattle.plan_request.specs.Request.{request_from_text}
use Rattle.plan_request.specs.declared.request.PlanRequest.{PlanRequest}
use Rattle.planner.specs.code.Course.{IsSurvey, Refuses}
use Rattle.planner.specs.Deliveries.{IsRequested}
use Rattle.planner.specs.Meaning.{AreHonest}
use Rattle.planner.specs.code.PlanFault.{answered}
use Rattle.planner.specs.declared.document.Document.TheVariants.{Request}
use Rattle.planner.specs.declared.plan_fault.PlanFault.{PlanFault}
use Rattle.planner.specs.declared.plan_fault.PlanFault.TheVariants.{Memory}
use Rattle.planner.specs.declared.surveyed.Surveyed.{Surveyed}
use Rattle.workload_maker.specs.Catalogues.{request_text, sites_text, transformations_text}
use Rattle.workload_maker.specs.Jobs.{each}
use Rattle.workload_maker.specs.Replicas.{image_of, replicas_text}
use Rattle.workload_maker.specs.Workflow.{workflow_text}
use Rattle.rehearsal.specs.declared.preparing.Prepared.{Prepared}

-- ---- the documents and the store of the workload

abbrev pub documents_of : ℕ → Documents
documents_of n = record {
  workflow = workflow_text n;
  sites = Some sites_text;
  replicas = Some (replicas_text n);
  transformations = Some transformations_text;
}

-- replicas put one after the other
abbrev pub stored : List (List ℕ × List ℕ) → Store → Store
stored [] s = s
stored (x ∷ xs) s = stored xs (with_replica x.0 x.1 s)

-- the images alone
abbrev pub workload_store : ℕ → Store
workload_store n = stored (each n image_of) blank

-- what stands at each pfn
abbrev pub told_by : Store → List ℕ → Option (List ℕ)
told_by m pfn = files.get m.replicas pfn

-- ---- what comes of them

-- This is what the workload's request and documents say.
pub record IsSurveyedWorkload (n : ℕ) (s : Surveyed) : Type 0 where
  pub request : answered Request (request_from_text (request_text n)) ≡ Ok s.request
  pub survey : IsSurvey s.request (documents_of n) s.survey

-- The workload's request is read, and its documents are refused for this reason.
pub record RefusesDocuments (n : ℕ) (fault : PlanFault) : Type 0 where
  pub request : PlanRequest
  pub asked : answered Request (request_from_text (request_text n)) ≡ Ok request
  pub refuses : Refuses request (documents_of n) fault

-- when each fault comes
abbrev pub RefusesWorkload : ℕ → PlanFault → Type 0
RefusesWorkload n Memory = Unit {0}
RefusesWorkload n fault =
    (answered Request (request_from_text (request_text n)) ≡ Err fault) ⊎ RefusesDocuments n fault

-- One file is requested, mosaic.txt.
pub record HasMosaic (s : Surveyed) : Type 0 where
  pub mosaic : ℕ
  pub requested : IsRequested s.survey mosaic
  pub named : slice_index_or s.survey.workflow.files mosaic [] ≡ codes "mosaic.txt"
  pub only : (g : ℕ) → IsRequested s.survey g → g ≡ mosaic

-- The workload is surveyed, beside a store that holds its images alone; its replicas are honest over it.
pub record IsPrepared (n : ℕ) (x : Prepared) : Type 0 where
  pub surveyed : IsSurveyedWorkload n x.surveyed
  pub store : host_store x.host ≡ workload_store n
  pub counts : host_counts x.host ≡ no_calls
  pub honest : (apply : Apply) →
      AreHonest apply (told_by (workload_store n)) x.surveyed.request x.surveyed.survey
  pub mosaic : HasMosaic x.surveyed
