use Rattle.pegasus_commands.specs.code.Commands.Plan.{ArePeaksOf}
use Rattle.pegasus_commands.proofs.commands.plan.peaks_of.Given as goal

abbrev pub invariant-loop-site : goal.invariant-loop-site
invariant-loop-site l = ArePeaksOf l.ordered.plan l.ordered.tasks.items l.site l.peaks.items
