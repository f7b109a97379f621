-- The answers of `eval`.
use Rattle.std.proofs.Common.{◌≡◌, ℕ, List, [], refl, sym, ap, subst, ◌∙◌}
use Rattle.std.specs.Prelude.{Ok, Err}
use Rattle.outside.specs.code.Counts.{Rose}
use Rattle.evaluation.specs.Evaluating.{AllDefined, HasNoValues}
use Rattle.evaluation.specs.Moments.{Meeting, Subject}
use Rattle.evaluation.specs.declared.fault.EvaluationFault.{EvaluationFault}
use Rattle.evaluation.specs.declared.fault.EvaluationFault.TheVariants as unvalued
use Rattle.planner.specs.declared.surveyed.Surveyed.{Surveyed}
use Rattle.run_record.specs.declared.run_fault.RunFault.TheVariants as run
use Rattle.plan_run.specs.Moments.{Tools, Work}
use Rattle.pegasus_commands.specs.declared.fault.CallFault.{CallFault}
use Rattle.pegasus_commands.specs.declared.fault.CallFault.TheVariants.{Memory}
use Rattle.pegasus_commands.specs.code.Commands.Eval.{CanEvaluate, Evaluates, Says, eval, meeting_of, subject_of}
use Rattle.pegasus_commands.specs.code.CommandSpec.{Finishes, NoneRoseAtWork}
use Rattle.pegasus_commands.specs.code.Fault.{Answer, IsDoneOrMemory, not_for, value_answer}
use Rattle.pegasus_commands.specs.code.Survey.{survey_of}
use Rattle.pegasus_commands.proofs.InputSpecLemmas.{finishes_over}

-- nothing but a counted failure, or want of memory, keeps an evaluation from values
abbrev pub EvaluationsFinish : Type 0
EvaluationsFinish = (m : Meeting) (s : Subject) (fault : EvaluationFault) → HasNoValues m s fault → AllDefined m s → (Rose m.before.counts.faults m.after.counts.faults → ⊥) → (Rose m.before.tool m.after.tool → ⊥) → fault ≡ unvalued.Failed run.Memory

-- the text and the answer where there are no values
says_none : (w : Work) (s : Surveyed) (fault : EvaluationFault) (answer : CallFault) → HasNoValues (meeting_of w) (subject_of s) fault → answer ≡ value_answer fault → Says w s [] (not_for answer)
says_none w s fault Memory h is = tt
says_none w s fault answer h is = (record { fault = fault; comes = h; answers = is }, refl)

pub says_unvalued : (w : Work) (s : Surveyed) (fault : EvaluationFault) (text : List ℕ) (a : Answer) → HasNoValues (meeting_of w) (subject_of s) fault → text ≡ [] → a ≡ not_for (value_answer fault) → Says w s text a
says_unvalued w s fault text a h none is = rw (none, is) (says_none w s fault (value_answer fault) h refl)

says_done : (law : EvaluationsFinish) (w : Work) (t : Tools) (s : Surveyed) (text : List ℕ) (a : Answer) → Says w s text a → CanEvaluate w s → NoneRoseAtWork w t → IsDoneOrMemory a
says_done law w t s text (Ok given) h can still = tt
says_done law w t s text (Err Memory) h can still = tt
says_done law w t s text (Err fault) h can still =
    let memory = law (meeting_of w) (subject_of s) h.0.fault h.0.comes can still.host still.tool in
    subst (λ (f : CallFault). IsDoneOrMemory (not_for f)) (sym (h.0.answers ∙ ap value_answer memory)) tt

pub eval_finishes : EvaluationsFinish → (name : List ℕ) → Finishes (eval name)
eval_finishes law name = finishes_over (survey_of name) Evaluates CanEvaluate (λ w t s text a works can still. says_done law w t s text a works.says can still)
