-- The workload of n images.
use Rattle.std.specs.Prelude.{◌≡◌, ℕ, Some}
use Rattle.workload_maker.specs.declared.making.Workload.{Workload}
use Rattle.workload_maker.specs.Jobs.{each}
use Rattle.workload_maker.specs.Workflow.{workflow_text}
use Rattle.workload_maker.specs.Catalogues.{request_text, sites_text, transformations_text}
use Rattle.workload_maker.specs.Replicas.{image_of, replicas_text}

-- The documents of a workload, and its replicas by their pfns.
pub record IsMontage (n : ℕ) (w : Workload) : Type 0 where
  pub request : w.request ≡ request_text n
  pub workflow : w.documents.workflow ≡ workflow_text n
  pub sites : w.documents.sites ≡ Some sites_text
  pub replicas : w.documents.replicas ≡ Some (replicas_text n)
  pub transformations : w.documents.transformations ≡ Some transformations_text
  pub images : w.replicas.items ≡ each n image_of
