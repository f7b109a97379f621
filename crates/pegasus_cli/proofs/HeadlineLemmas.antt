-- What the clause of a call comes to for a run that ended Done.
use Rattle.std.proofs.Common.{◌≡◌, ◌⊎◌, ℕ, ◌++◌, List, refl, sym, ap, subst, ◌∙◌, inl, inr}
use Rattle.std.proofs.Math.Logic.{∥∥₁_map, ∥∥₁_map₂}
use Rattle.std.specs.Prelude.{None, Some, codes}
use Rattle.std.specs.Io.KnownBytes.{Appends}
use Rattle.plan_core.specs.Words.{task_numbers}
use Rattle.storage_simulation.specs.Ordering.{at_start}
use Rattle.storage_simulation.proofs.OrderLawLemmas.{order_is}
use Rattle.planner.specs.declared.surveyed.Surveyed.{Surveyed}
use Rattle.site_yard.specs.Changes.{carries}
use Rattle.site_yard.specs.Law.{IsDeliveryOf}
use Rattle.site_yard.specs.Trace.{trace_of}
use Rattle.plan_run.specs.Moments.{Tools, Work}
use Rattle.plan_run.specs.Running.{IsRunText}
use Rattle.pegasus_commands.specs.code.Commands.{has_line, spec_of, threaded_spec}
use Rattle.pegasus_commands.specs.code.Commands.EnsembleRun.{DeliversMembers, RunsJoint, ensemble_by}
use Rattle.pegasus_commands.specs.code.Commands.Plan.{task_limit}
use Rattle.pegasus_commands.specs.code.Commands.Run.{RunsMany, run}
use Rattle.pegasus_commands.specs.code.CommandSpec.{Does}
use Rattle.pegasus_commands.specs.code.Ensembles.{GoesOn as GoesOnJointly, Joined, joined}
use Rattle.pegasus_commands.specs.code.Fault.{done}
use Rattle.pegasus_commands.specs.Moments.{DocsMoment}
use Rattle.pegasus_commands.specs.PlanRun.{AreHonestIn, AreSet, ShownBy, value_in}
use Rattle.pegasus_commands.specs.code.PlanRun.{DeliversRequested, HasRunPlan, IsUnrun}
use Rattle.command_words.specs.code.Words.{Command, InThreads, command as command_of}
use Rattle.command_words.specs.Words.{EnsembleBy, Run, Threaded, threaded_command}
use Rattle.pegasus_commands.proofs.DeliveryLemmas.{set_carried, set_valued, told_so}
use Rattle.pegasus_commands.proofs.FaultLemmas.{no_fault_is_done}
use Rattle.pegasus_commands.proofs.PlanRunLemmas.{ended_reports, ended_tells}
use Rattle.pegasus_cli.specs.declared.outcome.Outcome.{Outcome}
use Rattle.pegasus_cli.specs.declared.outcome.Outcome.TheVariants as outcomes
use Rattle.pegasus_cli.specs.code.Call.{Ends, IsAnswered, IsDoneBy, IsUsage, doing_of}
use Rattle.pegasus_cli.specs.Headline.{EndsSo, Headline, HoldsOf}
use Rattle.pegasus_cli.specs.code.Joint.{JointEndsSo, JointHoldsOf}
use Rattle.pegasus_cli.specs.Moments.{Call}
use Rattle.pegasus_cli.specs.code.Outcome.{closing, line_of}
use Rattle.pegasus_cli.specs.Read.{IsRead}
use Rattle.pegasus_cli.proofs.CallLemmas.{same_command}
use Rattle.pegasus_cli.proofs.OutcomeLemmas.{done_is}
use Rattle.pegasus_cli.proofs.PlanLemmas.{stated_so}
use Rattle.pegasus_cli.proofs.ReadLemmas.{read_so}
use Rattle.pegasus_cli.proofs.ThreadedWordsLemmas.{in_threads}

-- the line of what is done
pub done_line : line_of (outcomes.Done None) ≡ codes "done\n"
done_line = refl

-- ---- the run

pub headline_of : (w : Work) (t : Tools) (n : ℕ) (s : Surveyed) (text : List ℕ) → HasRunPlan w t n s text done → Headline w t n s text
headline_of w t n s text h = record {
  plan = h.plan;
  order = h.order;
  history = h.ran.r;
  planned = stated_so s.request s.survey task_limit h.plan h.ready.planned;
  ordered = order_is h.plan at_start (task_numbers h.order) h.ready.order_is;
  legal = h.ran.run.legal;
  by_workers = h.ran.run.below;
  complete = (ended_tells w h.plan (task_numbers h.order) h.ran.r h.end h.answers h.ran.tells).1;
  printed = subst (IsRunText w.apply h.plan h.ran.r w.before.told) (sym h.text_is) (ended_reports w h.plan h.ran.r h.report h.end h.answers h.ran.reports).text;
  told = h.ran.run.told;
  operations = told_so w h.plan h.ran.r (DeliversRequested w s h.plan h.ran.r) (λ old new. new.trace ≡ old.trace ++ trace_of h.plan h.ran.r) h.ran.run.shown h.delivers (λ m new agrees d. agrees.trace);
  within = λ k q l. (h.ran.run.safe k).within q l;
  output = h.ran.run.output;
  left = h.ran.run.left;
  safe = λ k. (h.ran.run.safe k).safe;
  carried = told_so w h.plan h.ran.r (DeliversRequested w s h.plan h.ran.r) (λ old new. AreSet s (IsDeliveryOf h.plan (carries w.apply h.plan old)) old.delivered new.delivered) h.ran.run.shown h.delivers (λ m new agrees d. set_carried w s h.plan h.ran.r m new h.complete d);
  valued = told_so w h.plan h.ran.r (DeliversRequested w s h.plan h.ran.r) (λ old new. AreHonestIn w s old → AreSet s (λ f content. content ≡ value_in w s old f) old.delivered new.delivered) h.ran.run.shown h.delivers (λ m new agrees d. set_valued w s h.plan h.ran.r m new h.complete d);
}

-- ---- the call

not_refused : (s : Surveyed) (w : Work) (t : Tools) (text : List ℕ) → IsUnrun w t s text done → ⊥
not_refused s w t text h = no_fault_is_done h.fault h.answers

headlined : (n : ℕ) (w : Work) (t : Tools) (s : Surveyed) (text : List ℕ) → RunsMany n w t s text done → ∥ Headline w t n s text ∥₁
headlined n w t s text (inl refused) = absurd (not_refused s w t text refused)
headlined n w t s text (inr ran) = ∥∥₁_map ran (λ (k : HasRunPlan w t n s text done). headline_of w t n s text k)

pub joint_so : (n : ℕ) (w : Work) (t : Tools) (j : Joined) (text : List ℕ) → RunsJoint (RunsMany n) w t j text done → ∥ Headline w t n j.surveyed text ∥₁
joint_so n w t j text h = headlined n w t j.surveyed text h.runs

-- What the words say was done, and this was written.
record IsDone (c : Call) (t : Threaded) : Type 0 where
  pub text : List ℕ
  pub written : Appends c.output.before.written c.output.after.written (text ++ codes "done\n")
  pub does : Does (threaded_spec t) (doing_of c) text done

done_by : (c : Call) (outcome : Outcome) → IsAnswered c outcome → (t : Threaded) → threaded_command c.asked.words ≡ Some t → outcome ≡ outcomes.Done None → IsDone c t
done_by c outcome answered t is ended = by answered.came
  where
    ends : (outcomes.Done None ≡ answered.answer) × (c.output.after.faults ≡ c.output.before.faults) × Appends c.output.before.written c.output.after.written answered.text
    ends = subst (Ends c.output answered.text answered.answer) ended answered.ends

    by : IsUsage c answered.text answered.answer ⊎ IsDoneBy c answered.text answered.answer → IsDone c t
    by (inl usage) = absurd (let clash : ◌≡◌ {A = Outcome} (outcomes.Done None) outcomes.Usage = ends.0 ∙ usage.answers in cc)
    by (inr came) =
        let same = same_command (command_of c.asked.words) came.command (InThreads t) came.is_command (in_threads c.asked.words t is) in
        let does = subst (λ (k : Command). Does (spec_of k) (doing_of c) came.told came.says) same came.does in
        let text = came.text_is ∙ ap (λ (k : Command). came.told ++ closing (has_line k) answered.answer) same ∙ ap (λ (a : Outcome). came.told ++ line_of a) (sym ends.0) in record {
          text = came.told;
          written = subst (Appends c.output.before.written c.output.after.written) text ends.2;
          does = subst (Does (threaded_spec t) (doing_of c) came.told) (done_is came.says (ends.0 ∙ came.answers)) does;
        }

ends_so : (c : Call) (Read : DocsMoment → DocsMoment → Surveyed → Type 0) (n : ℕ) (s : Surveyed) (text : List ℕ) → Read c.asked.before c.asked.after s → Appends c.output.before.written c.output.after.written (text ++ codes "done\n") → Headline c.work c.tools n s text → EndsSo c Read n
ends_so c Read n s text read written headline = record { surveyed = s; read = read; text = text; written = written; headline = headline }

-- what holds of a run that ended Done
pub holds : (c : Call) (outcome : Outcome) → IsAnswered c outcome → HoldsOf c outcome
holds c outcome answered n request is ended = by known.does
  where
    known : IsDone c (Run request n)
    known = done_by c outcome answered (Run request n) is ended

    by : Does (run request n) (doing_of c) known.text done → ∥ EndsSo c (λ before after. IsRead before.told request) n ∥₁
    by (inl h) = absurd (no_fault_is_done h.fault h.answers)
    by (inr h) = ∥∥₁_map (headlined n c.work c.tools h.inputs known.text h.works) (λ (k : Headline c.work c.tools n h.inputs known.text).
        ends_so c (λ before after. IsRead before.told request) n h.inputs known.text (read_so request c.asked.before c.asked.after h.inputs h.comes) known.written k)

-- what holds of an ensemble that ended Done
pub joint_holds : (c : Call) (outcome : Outcome) → IsAnswered c outcome → JointHoldsOf c outcome
joint_holds c outcome answered n name is ended = by known.does
  where
    known : IsDone c (EnsembleBy name n)
    known = done_by c outcome answered (EnsembleBy name n) is ended

    by : Does (ensemble_by name n) (doing_of c) known.text done → ∥ JointEndsSo c name n ∥₁
    by (inl h) = absurd (no_fault_is_done h.fault h.answers)
    by (inr h) = ∥∥₁_map₂ (joint_so n c.work c.tools h.inputs known.text h.works) (h.works.delivers refl) (λ (k : Headline c.work c.tools n h.inputs.surveyed known.text) (delivers : ShownBy c.work (DeliversMembers c.work h.inputs.members)). record {
      members = h.inputs.members;
      ends = ends_so c (λ before after s. GoesOnJointly name before after (joined h.inputs.members s)) n h.inputs.surveyed known.text h.comes known.written k;
      delivers = delivers;
    })
