use Rattle.std.proofs.Common.{◌≡◌, drop}
use Rattle.std.specs.Prelude.{find}
use Rattle.pegasus_commands.specs.code.KeptTools.{lacks_tool}
use Rattle.pegasus_commands.proofs.kept_tools.unknown_tool.Given as goal

abbrev pub invariant-loop-job : goal.invariant-loop-job
invariant-loop-job g l = find (lacks_tool g.T.Tool.known) (drop l.job-index l.job-items) ≡ find (lacks_tool g.T.Tool.known) l.job-items
