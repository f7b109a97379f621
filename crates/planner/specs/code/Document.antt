-- The words of the documents.
use Rattle.std.specs.Prelude.{ℕ, List, codes}
use Rattle.planner.specs.declared.document.Document.{Document}
use Rattle.planner.specs.declared.document.Document.TheVariants.{Request, Workflow, Sites, Replicas, Transformations}

abbrev pub document_word : Document → List ℕ
document_word Request = codes "request"
document_word Workflow = codes "workflow"
document_word Sites = codes "sites"
document_word Replicas = codes "replicas"
document_word Transformations = codes "transformations"
