-- The clause of a call.
use Rattle.std.proofs.Common.{◌≡◌, true, ℕ, ◌++◌, List, [], take, refl, sym, ap, subst, ◌∙◌, inl, inr}
use Rattle.std.specs.Prelude.{◌⊎◌, Option, Some, None, Err, is_some, option_map}
use Rattle.std.specs.Io.KnownBytes.{Appends, Keeps}
use Rattle.outside.specs.code.Counts.{Rose}
use Rattle.outside.specs.code.Sink.{WroteAll}
use Rattle.outside.specs.declared.sink.SinkFault.{SinkFault}
use Rattle.outside.specs.declared.sink.SinkFault.TheVariants as sink_faults
use Rattle.pegasus_commands.specs.code.Commands.{has_line, spec_of}
use Rattle.pegasus_commands.specs.code.CommandSpec.{Does, NoneRoseIn}
use Rattle.pegasus_commands.specs.code.Fault.{Answer, not_for}
use Rattle.pegasus_commands.specs.declared.fault.CallFault.TheVariants.{Memory}
use Rattle.pegasus_commands.specs.Moments.{DocsMoment}
use Rattle.command_words.specs.code.Words.{Command, command as command_of}
use Rattle.run_record.proofs.FaultLemmas.{not_malformed}
use Rattle.run_record.proofs.OneTextLemmas.{one_text}
use Rattle.evaluation.proofs.FinishLemmas.{only_memory}
use Rattle.pegasus_commands.proofs.PlanRunLemmas.{RunsFinish}
use Rattle.pegasus_commands.proofs.ResumeLemmas.{ResumesFinish}
use Rattle.pegasus_commands.proofs.CommandsLemmas.{Laws, finishes, unbegun}
use Rattle.pegasus_cli.specs.declared.outcome.Outcome.{Outcome}
use Rattle.pegasus_cli.specs.declared.outcome.Outcome.TheVariants as outcomes
use Rattle.pegasus_cli.specs.code.Call.{Ends, IsAnswered, IsDoneBy, IsDoneOrMemory, IsUsage, NoneRose, doing_of}
use Rattle.pegasus_cli.specs.Moments.{Call, Output}
use Rattle.pegasus_cli.specs.code.Outcome.{IsAnswer, closing, line_of, outcome_of}
use Rattle.pegasus_cli.proofs.OutcomeLemmas.{no_usage, outcome_done}

pub ends_as : (o : Output) (text : List ℕ) (a : Outcome) → (a ≡ outcomes.Memory → ⊥) → IsAnswer a → o.after.faults ≡ o.before.faults → Appends o.before.written o.after.written text → Ends o text a a
ends_as o text outcomes.Memory m i f h = absurd (m refl)
ends_as o text outcomes.SinkFailed m i f h = absurd i
ends_as o text a m i f h = (refl, f, h)

-- what a failing sink took
pub cut_short : (old new : Option (List ℕ)) (from to : ℕ) (piece all text : List ℕ) (a : Outcome) (f : SinkFault) → piece ≡ all → all ≡ text → WroteAll old new from to piece (Err f) → (a ≡ outcomes.Memory → ⊥)
    → Rose from to × (a ≡ outcomes.Memory → ⊥) × (n : ℕ) × Appends old new (take n text)
cut_short old new from to piece all text a sink_faults.Failed ep ea h m = (h.0, m, h.1, subst (λ (z : List ℕ). Appends old new (take h.1 z)) (ep ∙ ea) h.3)

-- what the commands take of the crates below
pub laws : RunsFinish → ResumesFinish → Laws
laws runs resumed = record { runs = runs; evaluations = only_memory; records = not_malformed; one_record = one_text; resumed = resumed }

-- the words of a call are one command
pub same_command : (o : Option Command) (x y : Command) → o ≡ Some x → o ≡ Some y → x ≡ y
same_command o x y i j = cc

no_command : (o : Option Command) (x : Command) → o ≡ Some x → o ≡ None → ⊥
no_command o x i j = absurd cc

ends_done : (o : Output) (text : List ℕ) (a x : Outcome) → Ends o text a x → IsDoneOrMemory a → (Rose o.before.faults o.after.faults → ⊥) → IsDoneOrMemory x
ends_done o text a outcomes.Memory e h still = tt
ends_done o text a outcomes.SinkFailed e h still = absurd (still e.0)
ends_done o text a x e h still = subst IsDoneOrMemory (sym e.0) h

-- The words are no command.
pub usage_answered : (c : Call) (outcome : Outcome) → command_of c.asked.words ≡ None → c.asked.after ≡ c.asked.before → c.work.after ≡ c.work.before → c.tools.after ≡ c.tools.before → Ends c.output (line_of outcomes.Usage) outcomes.Usage outcome → IsAnswered c outcome
usage_answered c outcome none asked work tools ends = record {
  answer = outcomes.Usage;
  text = line_of outcomes.Usage;
  came = inl (record { no_command = none; answers = refl; not_asked = asked; untouched = work; unused = tools; text_is = refl });
  ends = ends;
  completes = λ may still. absurd (no_command (command_of c.asked.words) may.command may.is_command none);
}

none_rose : (c : Call) → NoneRose c → NoneRoseIn (doing_of c)
none_rose c still = record { docs = still.docs; work = record { host = still.host; tool = still.tool; tools = still.tools } }

-- The command did what it does.
pub command_answered : (law : Laws) (c : Call) (k : Command) (says : Answer) (outcome : Outcome) (text : List ℕ) → command_of c.asked.words ≡ Some k → Does (spec_of k) (doing_of c) text says → Ends c.output (text ++ closing (has_line k) (outcome_of says)) (outcome_of says) outcome → IsAnswered c outcome
command_answered law c k says outcome text is does ends = record {
  answer = outcome_of says;
  text = text ++ closing (has_line k) (outcome_of says);
  came = inr (record { command = k; is_command = is; says = says; told = text; does = does; answers = refl; text_is = refl });
  ends = ends;
  completes = λ may still.
      let same = same_command (command_of c.asked.words) may.command k may.is_command is in
      let can = subst (λ (x : Command). (spec_of x).CanFinish c.asked.before.told c.work) same may.can_finish in
      ends_done c.output (text ++ closing (has_line k) (outcome_of says)) (outcome_of says) outcome ends (outcome_done says (finishes law k (doing_of c) text says does can (none_rose c still))) still.sink;
}

-- Memory ran out as the words were read, which are a command.
pub unread_answered : (law : Laws) (c : Call) (o : Option Command) → command_of c.asked.words ≡ o → is_some o ≡ true → c.asked.after ≡ c.asked.before → c.work.after ≡ c.work.before → c.tools.after ≡ c.tools.before → c.output.after.faults ≡ c.output.before.faults → Keeps c.output.before.written c.output.after.written → IsAnswered c outcomes.Memory
unread_answered law c None is there asked work tools still kept = absurd cc
unread_answered law c (Some k) is there asked work tools still kept =
    command_answered law c k (not_for Memory) outcomes.Memory [] is
    (inl (record { fault = Memory; comes = subst (λ (m : DocsMoment). (spec_of k).Comes c.asked.before m (Err Memory)) (sym asked) (unbegun k c.asked.before); answers = refl; untouched = work; unused = tools; no_text = refl })) (still, kept)

pub keeps_same : (written : Option (List ℕ)) → Keeps written written
keeps_same None = tt
keeps_same (Some bytes) = refl

pub some_mapped : {A B : Type 0} (f : A → B) (o : Option A) → is_some o ≡ true → is_some (option_map f o) ≡ true
some_mapped f None h = absurd cc
some_mapped f (Some a) h = refl

-- Usage comes only where the words are no command.
pub usage_is_no_command : (c : Call) → IsAnswered c outcomes.Usage → command_of c.asked.words ≡ None
usage_is_no_command c answered = came_so answered.came
  where
    came_so : IsUsage c answered.text answered.answer ⊎ IsDoneBy c answered.text answered.answer → command_of c.asked.words ≡ None
    came_so (inl usage) = usage.no_command
    came_so (inr came) = absurd (no_usage came.says (answered.ends.0 ∙ came.answers))

-- Where the words are no command, the answer is Usage.
pub no_command_is_usage : (c : Call) (outcome : Outcome) → command_of c.asked.words ≡ None → (answered : IsAnswered c outcome) → answered.answer ≡ outcomes.Usage
no_command_is_usage c outcome none answered = came_so answered.came
  where
    came_so : IsUsage c answered.text answered.answer ⊎ IsDoneBy c answered.text answered.answer → answered.answer ≡ outcomes.Usage
    came_so (inl usage) = usage.answers
    came_so (inr came) = absurd (no_command (command_of c.asked.words) came.command came.is_command none)
