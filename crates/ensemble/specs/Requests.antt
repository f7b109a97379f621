-- The joint request: what the ensemble asks for, and what each member's own request says of sizes and tools.
use Rattle.std.specs.Prelude.{List, [], None}
use Rattle.std.specs.List.{flat_map}
use Rattle.plan_request.specs.FileSizes.{declared_sizes}
use Rattle.plan_request.specs.declared.request.PlanRequest.{PlanRequest}
use Rattle.plan_request.specs.declared.request.Selector.TheVariants.{RoundRobin}
use Rattle.plan_request.specs.declared.request.SizeOf.{SizeOf}
use Rattle.plan_request.specs.declared.request.ToolOf.{ToolOf}
use Rattle.ensemble.specs.declared.member.Member.{Member}
use Rattle.ensemble.specs.Stated.{stated_sizes, stated_tools}

-- the declared sizes of a member's files, by its own request
abbrev pub sizes_of : Member → List SizeOf
sizes_of m =
    stated_sizes m.name m.survey.workflow.files
    (declared_sizes m.request m.survey.workflow.files m.survey.workflow.sizes)

-- the tools of a member's transformations, by its own request
abbrev pub tools_of : Member → List ToolOf
tools_of m = stated_tools m.name m.request.tools m.survey.workflow.jobs

abbrev pub joint_sizes : List Member → List SizeOf
joint_sizes ms = flat_map sizes_of ms

abbrev pub joint_tools : List Member → List ToolOf
joint_tools ms = flat_map tools_of ms

-- what the ensemble asks for, with each size and each tool stated, so without a default; it names no documents, and has
-- sites chosen in turns
abbrev pub joint_request : List Member → PlanRequest → PlanRequest
joint_request ms r = record {
  workflow = [];
  sites = None;
  replicas = None;
  transformations = None;
  execute = r.execute;
  sizes = joint_sizes ms;
  default_size = None;
  cluster = r.cluster;
  cleanup = r.cleanup;
  force = r.force;
  tools = joint_tools ms;
  policy = r.policy;
  selector = RoundRobin;
  rate = 1;
  runtimes = [];
}
