-- Beside `specs/Document.antt`: what the code's own contracts say.
use Rattle.std.specs.Prelude.{option_map}
use Rattle.serde_json.specs.View.{view as tree_view}
use Rattle.workflow_reader.specs.declared.document.Document.{Document}
use Rattle.workflow_reader.specs.Workflow.{DocumentEntry}

abbrev pub entry : Document → DocumentEntry
entry d = record {
  name = d.name;
  jobs = d.jobs;
  dependencies = d.dependencies;
  sites = option_map tree_view d.inlined.sites;
  replicas = option_map tree_view d.inlined.replicas;
  transformations = option_map tree_view d.inlined.transformations;
}
