use Rattle.pegasus_cli.proofs.CallLemmas.{no_command_is_usage, usage_is_no_command}
use Rattle.pegasus_cli.proofs.law.usage_is_no_command.Goals as goal

pub returns : goal.returns
returns c = record { only = usage_is_no_command; always = no_command_is_usage }
