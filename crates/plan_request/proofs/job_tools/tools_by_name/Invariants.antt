use Rattle.std.proofs.Common.{◌≡◌, [], map, drop}
use Rattle.plan_request.specs.code.Index.{with_entries}
use Rattle.plan_request.specs.JobTools.{named_tool}
use Rattle.plan_request.proofs.job_tools.tools_by_name.Given as goal

abbrev pub invariant-loop-entry : goal.invariant-loop-entry
invariant-loop-entry l = with_entries l.index (map named_tool (drop l.entry-index l.tools)) ≡ with_entries [] (map named_tool l.tools)
