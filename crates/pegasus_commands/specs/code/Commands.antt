-- The table of the commands.
use Rattle.std.specs.Prelude.{Bool, true, false}
use Rattle.command_words.specs.code.Words as words
use Rattle.command_words.specs.Words as threaded
use Rattle.command_words.specs.code.Words.{Command, Quick}
use Rattle.command_words.specs.Words.{Threaded}
use Rattle.pegasus_commands.specs.code.CommandSpec.{CommandSpec}
use Rattle.pegasus_commands.specs.code.Commands.Check.{check}
use Rattle.pegasus_commands.specs.code.Commands.Plan.{plan}
use Rattle.pegasus_commands.specs.code.Commands.Eval.{eval}
use Rattle.pegasus_commands.specs.code.Commands.Alone.{alone}
use Rattle.pegasus_commands.specs.code.Commands.Audit.{audit}
use Rattle.pegasus_commands.specs.code.Commands.Stat.{stat}
use Rattle.pegasus_commands.specs.code.Commands.Resume.{resume}
use Rattle.pegasus_commands.specs.code.Commands.Produce.{produce}
use Rattle.pegasus_commands.specs.code.Commands.Schedule.{schedule}
use Rattle.pegasus_commands.specs.code.Commands.Run.{run}
use Rattle.pegasus_commands.specs.code.Commands.EnsembleRun.{ensemble, ensemble_by}
use Rattle.pegasus_commands.specs.code.Commands.Rehearse.{rehearse, rehearse_by}
pub mod Check
pub mod Plan
pub mod Eval
pub mod Alone
pub mod Audit
pub mod Stat
pub mod Resume
pub mod Produce
pub mod Schedule
pub mod Run
pub mod EnsembleRun
pub mod Rehearse

abbrev pub quick_spec : Quick → CommandSpec
quick_spec (words.Check name) = check name
quick_spec (words.Plan name) = plan name
quick_spec (words.Eval name) = eval name
quick_spec (words.Alone name) = alone name
quick_spec (words.Audit name history) = audit name history
quick_spec (words.Stat name history) = stat name history
quick_spec (words.Resume name history) = resume name history
quick_spec (words.Produce name) = produce name
quick_spec (words.Schedule name) = schedule name
quick_spec (words.Ensemble name) = ensemble name
quick_spec (words.Rehearse images) = rehearse images

abbrev pub threaded_spec : Threaded → CommandSpec
threaded_spec (threaded.Run name workers) = run name workers
threaded_spec (threaded.EnsembleBy name workers) = ensemble_by name workers
threaded_spec (threaded.RehearseBy images workers) = rehearse_by images workers

abbrev pub spec_of : Command → CommandSpec
spec_of (words.Quickly q) = quick_spec q
spec_of (words.InThreads t) = threaded_spec t

-- A command's text is closed by the line of its outcome. Only a catalogue stands alone, so that it can be read.
abbrev pub has_line : Command → Bool
has_line (words.Quickly (words.Produce name)) = false
has_line _ = true
