-- The tools of a plan's kept jobs.
use Rattle.std.specs.Prelude.{ℕ, ◌&&◌, Bool, not, List, find, is_some, Option, option_map}
use Rattle.plan_core.specs.declared.plan.PlanJob.{PlanJob}
use Rattle.planner.specs.declared.plan_fault.PlanFault.{PlanFault}
use Rattle.planner.specs.declared.plan_fault.PlanFault.TheVariants.{ToolUnknown}

-- a job that has a site, with a tool that isn't known
abbrev pub lacks_tool : (List ℕ → Bool) → PlanJob → Bool
lacks_tool known j = is_some j.site && not (known j.tool)

abbrev pub tool_unknown : PlanJob → PlanFault
tool_unknown j = ToolUnknown j.id j.tool

-- the fault of the first kept job whose tool isn't known
abbrev pub unknown_tool : (List ℕ → Bool) → List PlanJob → Option PlanFault
unknown_tool known jobs = option_map tool_unknown (find (lacks_tool known) jobs)
