-- The clause of a call: an answer came, with its text, and then the call ended.
use Rattle.std.specs.Prelude.{◌≡◌, ◌⊎◌, ◌++◌, ℕ, List, take, Some, None}
use Rattle.std.specs.Io.KnownBytes.{Appends, Keeps}
use Rattle.outside.specs.code.Counts.{Rose}
use Rattle.command_words.specs.code.Words.{Command, command as command_of}
use Rattle.plan_run.specs.code.Moments.{count_of}
use Rattle.pegasus_commands.specs.code.Commands.{has_line, spec_of}
use Rattle.pegasus_commands.specs.code.CommandSpec.{Does, Doing, doing}
use Rattle.pegasus_commands.specs.code.Fault.{Answer}
use Rattle.pegasus_cli.specs.declared.outcome.Outcome.{Outcome}
use Rattle.pegasus_cli.specs.declared.outcome.Outcome.TheVariants as outcomes
use Rattle.pegasus_cli.specs.Moments.{Call, Output}
use Rattle.pegasus_cli.specs.code.Outcome.{closing, line_of, outcome_of}

-- what a call's command meets
abbrev pub doing_of : Call → Doing
doing_of c = doing c.asked.before c.asked.after c.work c.tools

-- The words are no command: nothing was asked for, and nothing was done.
pub record IsUsage (c : Call) (text : List ℕ) (answer : Outcome) : Type 0 where
  pub no_command : command_of c.asked.words ≡ None
  pub answers : answer ≡ outcomes.Usage
  pub not_asked : c.asked.after ≡ c.asked.before
  pub untouched : c.work.after ≡ c.work.before
  pub unused : c.tools.after ≡ c.tools.before
  pub text_is : text ≡ line_of answer

-- The words are a command, and it gave this answer; the text is what it told, with the line that closes it.
pub record IsDoneBy (c : Call) (text : List ℕ) (answer : Outcome) : Type 0 where
  pub command : Command
  pub is_command : command_of c.asked.words ≡ Some command
  pub says : Answer
  pub told : List ℕ
  pub does : Does (spec_of command) (doing_of c) told says
  pub answers : answer ≡ outcome_of says
  pub text_is : text ≡ told ++ closing (has_line command) answer

-- What was written: the text; a prefix of it where the sink failed; nothing at want of memory. No write failed but where
-- the answer says so.
abbrev pub Ends : Output → List ℕ → Outcome → Outcome → Type 0
Ends o text answer outcomes.Memory = (o.after.faults ≡ o.before.faults) × Keeps o.before.written o.after.written
Ends o text answer outcomes.SinkFailed = Rose o.before.faults o.after.faults × (answer ≡ outcomes.Memory → ⊥)
    × (n : ℕ) × Appends o.before.written o.after.written (take n text)
Ends o text answer outcome = (outcome ≡ answer) × (o.after.faults ≡ o.before.faults)
    × Appends o.before.written o.after.written text

-- no count of faults rose
pub record NoneRose (c : Call) : Type 0 where
  pub docs : Rose c.asked.before.counts.faults c.asked.after.counts.faults → ⊥
  pub host : Rose c.work.before.counts.faults c.work.after.counts.faults → ⊥
  pub tool : Rose c.work.before.tool c.work.after.tool → ⊥
  pub tools : (k : ℕ) → Rose (count_of c.tools.before k) (count_of c.tools.after k) → ⊥
  pub sink : Rose c.output.before.faults c.output.after.faults → ⊥

-- The words are a command that nothing but a counted fault, or want of memory, keeps from Done.
pub record MayFinish (c : Call) : Type 0 where
  pub command : Command
  pub is_command : command_of c.asked.words ≡ Some command
  pub can_finish : (spec_of command).CanFinish c.asked.before.told c.work

abbrev pub IsDoneOrMemory : Outcome → Type 0
IsDoneOrMemory (outcomes.Done given) = Unit {0}
IsDoneOrMemory outcomes.Memory = Unit {0}
IsDoneOrMemory _ = ⊥

-- Every clause of a call.
pub record IsAnswered (c : Call) (outcome : Outcome) : Type 0 where
  -- the answer that came, and its text
  pub answer : Outcome
  pub text : List ℕ
  -- how it came
  pub came : IsUsage c text answer ⊎ IsDoneBy c text answer
  -- how the call ended
  pub ends : Ends c.output text answer outcome
  -- what may finish does, where no count of faults rose, or memory runs out
  pub completes : MayFinish c → NoneRose c → IsDoneOrMemory outcome
