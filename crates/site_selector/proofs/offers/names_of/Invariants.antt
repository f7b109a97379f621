use Rattle.std.proofs.Common.{◌≡◌, [], drop}
use Rattle.workflow_core.specs.code.Names.{with_names}
use Rattle.site_selector.specs.code.Offers.{names_of}
use Rattle.site_selector.proofs.offers.names_of.Given as goal

abbrev pub invariant-loop-execution : goal.invariant-loop-execution
invariant-loop-execution l = with_names l.names (names_of (drop l.execution-index l.execute)) ≡ with_names [] (names_of l.execute)
