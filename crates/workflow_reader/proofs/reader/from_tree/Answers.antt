use Rattle.serde_json.specs.View.{view as tree_view}
use Rattle.workflow_reader.specs.code.Document.{entry}
use Rattle.workflow_reader.proofs.SmallLemmas.{document_small}
use Rattle.workflow_reader.proofs.reader.from_tree.Goals as goal

pub returns-clause-well_formed : goal.returns-clause-well_formed
returns-clause-well_formed c = c.in_ok-workflow.ensures.well_formed (document_small c.args.path.now (tree_view c.args.value.now) (entry c.in_ok-document.document) c.in_ok-document.ensures)
