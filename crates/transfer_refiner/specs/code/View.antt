-- What is planned, by reference.
use Rattle.transfer_refiner.specs.declared.view.View.{View}
use Rattle.transfer_refiner.specs.Draft.{Draft}

abbrev pub draft_of : View → Draft
draft_of v = record {
  workflow = v.workflow.now;
  parts = v.parts.now;
  sites = v.sites.now;
  replicas = v.replicas;
  request = v.request.now;
}
