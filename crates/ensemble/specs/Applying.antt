-- The requests of an ensemble and of its members.
use Rattle.std.specs.Prelude.{[], None}
use Rattle.plan_request.specs.declared.request.PlanRequest.{PlanRequest}
use Rattle.plan_request.specs.declared.request.Selector.TheVariants.{RoundRobin}
use Rattle.ensemble.specs.declared.document.Ensemble.{Ensemble}

-- a member's request: its own, but for the keys that the ensemble has
abbrev pub of_ensemble : Ensemble → PlanRequest → PlanRequest
of_ensemble e r = record r {
  execute = e.execute;
  cluster = e.cluster;
  cleanup = e.cleanup;
  force = e.force;
  policy = e.policy;
}

-- what the ensemble asks for by itself: it names no documents, states no sizes and no tools, and has sites chosen in turns
abbrev pub own_request : Ensemble → PlanRequest
own_request e = record {
  workflow = [];
  sites = None;
  replicas = None;
  transformations = None;
  execute = e.execute;
  sizes = [];
  default_size = None;
  cluster = e.cluster;
  cleanup = e.cleanup;
  force = e.force;
  tools = [];
  policy = e.policy;
  selector = RoundRobin;
  rate = 1;
  runtimes = [];
}
