use Rattle.std.proofs.Common.{◌≡◌, drop}
use Rattle.peg_json.specs.Elements.{first_unknown}
use Rattle.site_catalog.specs.Catalog.{names_of}
use Rattle.planner.specs.code.Course.{execution_names}
use Rattle.planner.proofs.course.check_execution_sites.Given as goal

abbrev pub invariant-loop-execution : goal.invariant-loop-execution
invariant-loop-execution l =
    first_unknown (names_of l.sites) (execution_names (drop l.execution-index l.execute))
    ≡ first_unknown (names_of l.sites) (execution_names l.execute)
