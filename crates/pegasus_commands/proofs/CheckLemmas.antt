-- The answers of `check`.
use Rattle.std.proofs.Common.{ℕ, List}
use Rattle.std.specs.Prelude.{Ok, Err}
use Rattle.planner.specs.declared.inputs.Survey.{Survey}
use Rattle.pegasus_commands.specs.declared.fault.CallFault.TheVariants.{Memory}
use Rattle.pegasus_commands.specs.code.Commands.Check.{Checks, Says, check}
use Rattle.pegasus_commands.specs.code.CommandSpec.{Finishes}
use Rattle.pegasus_commands.specs.code.Fault.{Answer, IsDoneOrMemory}
use Rattle.pegasus_commands.specs.code.Survey.{survey_of}
use Rattle.pegasus_commands.proofs.InputSpecLemmas.{finishes_over}

says_done : (s : Survey) (text : List ℕ) (a : Answer) → Says s text a → IsDoneOrMemory a
says_done s text (Ok given) h = tt
says_done s text (Err Memory) h = tt
says_done s text (Err fault) h = absurd h

pub check_finishes : (name : List ℕ) → Finishes (check name)
check_finishes name = finishes_over (survey_of name) Checks (λ w s. Unit {0}) (λ w t s text a works can still. says_done s.survey text a works.says)
