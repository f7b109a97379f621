-- The answers of `produce`.
use Rattle.std.proofs.Common.{◌≡◌, ℕ, List, refl, sym, subst, inl, inr}
use Rattle.std.specs.Prelude.{Some, None, IfOk, Ok, Err}
use Rattle.std.proofs.Math.Logic.{∥∥₁_elim, ∥∥₁_map}
use Rattle.values.specs.declared.numbers.TaskId.{TaskId}
use Rattle.plan_core.specs.declared.plan.Plan.{Plan}
use Rattle.plan_core.specs.code.Proper.{IsProper}
use Rattle.plan_core.specs.Words.{task_numbers}
use Rattle.run_record.specs.Events.{Event}
use Rattle.lease_rules.specs.code.Law.{FitsFromStart}
use Rattle.planner.specs.code.Deliveries.{DeliversRequests}
use Rattle.planner.specs.code.Meaning.{MeansWorkflow}
use Rattle.planner.specs.declared.inputs.Survey.{Survey}
use Rattle.planner.specs.declared.surveyed.Surveyed.{Surveyed}
use Rattle.site_yard.specs.Delivered.{AreFiles, arrivals}
use Rattle.site_yard.specs.declared.delivered.Delivered.{Delivered}
use Rattle.replica_writer.specs.Law.{CanBeWritten, FlaggedAreHeld, RunsCanBeWritten, SaysEnough}
use Rattle.replica_writer.specs.Writer.{CanWrite, CanWrite-prop}
use Rattle.plan_run.specs.Moments.{Tools, Work}
use Rattle.plan_run.specs.code.Moments.{first_tool}
use Rattle.plan_run.specs.code.Running.{End, HasRunAlone, Report}
use Rattle.pegasus_commands.specs.declared.fault.CallFault.{CallFault}
use Rattle.pegasus_commands.specs.declared.fault.CallFault.TheVariants.{Memory}
use Rattle.pegasus_commands.specs.code.Commands.Produce.{AreFilesNamed, Catalogues, HasProduced, IsCatalogue, IsWritten, Produces, TellsRun, produce}
use Rattle.pegasus_commands.specs.code.CommandSpec.{Finishes, NoneRoseAtWork}
use Rattle.pegasus_commands.specs.code.Fault.{Answer, IsDoneOrMemory, done, end_answer, not_for, run_answer}
use Rattle.pegasus_commands.specs.code.PlanRun.{AllDelivered, CanRun, IsReady}
use Rattle.pegasus_commands.proofs.AloneLemmas.{none_failed}
use Rattle.pegasus_commands.proofs.FaultLemmas.{done_prop}
use Rattle.pegasus_commands.proofs.NamesLemmas.{deliveries_named}
use Rattle.pegasus_commands.proofs.PlanRunLemmas.{HasDeliveryLaws, RunsFinish, ended_reports, named_in, plan_run_finishes, run_is, unrun_finishes}
use Rattle.pegasus_commands.specs.code.Survey.{survey_of}
use Rattle.pegasus_commands.proofs.InputSpecLemmas.{finishes_over}

-- ---- what was delivered

-- what is taken of the writer of catalogues, and of the record of a run
pub record HasWriterLaws (s : Survey) (p : Plan) (order : List ℕ) : Type 0 where
  pub runs : (r : List Event) (ds : List Delivered) → RunsCanBeWritten p order r ds
  pub says : (ds : List Delivered) → SaysEnough s.workflow p ds
  pub held : (ds : List Delivered) → FlaggedAreHeld s.workflow p ds

-- the deliveries of a run that is done, by its record
delivered_so : (w : Work) (s : Survey) (p : Plan) (order : List ℕ) (x : Report) (e : End) → HasWriterLaws s p order → IsProper p → FitsFromStart p order → done ≡ end_answer e → (h : HasRunAlone w p order x e) → CanBeWritten p h.ran.r x.delivered
delivered_so w s p order x e laws proper fits is h =
    let report = ended_reports w p h.ran.r x e is h.ran.reports in
    laws.runs h.ran.r x.delivered proper fits h.ran.run.legal (subst (λ (ds : List Delivered). AreFiles ds (arrivals p h.ran.r)) (sym report.delivered) report.text.are.files)

-- they can be written
pub can_write : (w : Work) (s : Surveyed) (p : Plan) (order : List ℕ) (x : Report) (e : End) → HasDeliveryLaws p order → HasWriterLaws s.survey p order → IsProper p → FitsFromStart p order → AreFilesNamed s.survey → DeliversRequests s.request s.survey p
    → ∥ HasRunAlone w p order x e ∥₁ → IfOk e (λ u. CanWrite p x.delivered)
can_write w s p order x (Ok ended) laws writes proper fits names requests run = ∥∥₁_elim run (CanWrite-prop p x.delivered) (λ (h : HasRunAlone w p order x (Ok ended)).
    let can = delivered_so w s.survey p order x (Ok ended) writes proper fits refl h in
    record { in_range = can.in_range; apart = can.apart; named = deliveries_named s.request s.survey p h.ran.r x.delivered names requests (laws.only h.ran.r) can.delivered })
can_write w s p order x (Err fault) laws writes proper fits names requests run = tt

-- ---- what is told

catalogue_is : (w : Work) (s : Surveyed) (p : Plan) (order : List ℕ) (x : Report) (e : End) (text : List ℕ) → HasWriterLaws s.survey p order → IsProper p → FitsFromStart p order → done ≡ end_answer e → DeliversRequests s.request s.survey p
    → (h : HasRunAlone w p order x e) → AllDelivered s p h.ran.r done → IsWritten p x.delivered text → IsCatalogue s.survey p x.delivered text
catalogue_is w s p order x e text laws proper fits is requests h all written =
    let can = delivered_so w s.survey p order x e laws proper fits is h in
    record {
      text_is = written.text_is;
      reads_back = written.reads_back;
      keeps_nothing = λ flagged. laws.says x.delivered (laws.held x.delivered s.well_formed (record {
        named = λ f l. named_in s p f (requests.named f l);
        flagged = λ f l r. flagged f (record { in_range = l; requested = r });
        held = λ f l r. can.held f (all f (record { in_range = l; requested = r }));
      }));
    }

-- of a run that isn't done the same is told
tells_same : (s : Survey) (p : Plan) (ds : List Delivered) (said text : List ℕ) (fault : CallFault) (a : Answer) → a ≡ not_for fault → text ≡ said → Catalogues s p ds said (not_for fault) text a
tells_same s p ds said text Memory a is same = rw is tt
tells_same s p ds said text fault a is same = rw is (refl, same)

tells_so : (s : Survey) (p : Plan) (ds : List Delivered) (said : List ℕ) (e : End) (text : List ℕ) (a : Answer) → TellsRun p ds said (end_answer e) text a → (done ≡ end_answer e → IsWritten p ds text → IsCatalogue s p ds text) → Catalogues s p ds said (end_answer e) text a
tells_so s p ds said (Ok ended) text (Ok None) tells so = (refl, so refl tells)
tells_so s p ds said (Ok ended) text (Ok (Some x)) tells so = absurd tells
tells_so s p ds said (Ok ended) text (Err Memory) tells so = tt
tells_so s p ds said (Ok ended) text (Err fault) tells so = absurd tells
tells_so s p ds said (Err fault) text a tells so = tells_same s p ds said text (run_answer fault) a tells.0 tells.1

-- A plan was run by the first member of the crew, and this is told of it.
pub produce_is : (w : Work) (t : Tools) (s : Surveyed) (p : Plan) (order : List TaskId) (x : Report) (e : End) (text : List ℕ) (a : Answer) → IsReady w.known s p order → HasDeliveryLaws p (task_numbers order) → HasWriterLaws s.survey p (task_numbers order) → FitsFromStart p (task_numbers order)
    → DeliversRequests s.request s.survey p → MeansWorkflow s.request s.survey p → ∥ HasRunAlone w p (task_numbers order) x e ∥₁ → TellsRun p x.delivered x.text (end_answer e) text a → Produces w t s text a
produce_is w t s p order x e text a ready laws writes fits requests means run tells = inr (∥∥₁_map run (λ (h : HasRunAlone w p (task_numbers order) x e).
    let planned = run_is w (first_tool w) 1 s p order x e ready laws requests means h.ran in
    record {
      said = x.text;
      ran = end_answer e;
      run = record { planned = planned; in_order = h.in_order; asked = h.asked };
      says = tells_so s.survey p x.delivered x.text e text a tells (λ is written. catalogue_is w s p (task_numbers order) x e text writes ready.proper fits is requests h (subst (AllDelivered s p h.ran.r) (sym is) planned.complete) written);
    }))

-- ---- what keeps it from Done

says_done : (s : Survey) (p : Plan) (ds : List Delivered) (said : List ℕ) (ran : Answer) (text : List ℕ) (a : Answer) → Catalogues s p ds said ran text a → IsDoneOrMemory ran → IsDoneOrMemory a
says_done s p ds said ran text (Ok given) h ends = tt
says_done s p ds said ran text (Err Memory) h ends = tt
says_done s p ds said ran text (Err fault) h ends = subst IsDoneOrMemory h.0 ends

runs_done : (law : RunsFinish) (w : Work) (t : Tools) (s : Surveyed) (text : List ℕ) (a : Answer) → Produces w t s text a → CanRun w s → NoneRoseAtWork w t → IsDoneOrMemory a
runs_done law w t s text a (inl h) can still = unrun_finishes w (first_tool w) s text a h can
runs_done law w t s text a (inr h) can still = ∥∥₁_elim h (done_prop a) (λ (k : HasProduced w s text a).
    says_done s.survey k.run.planned.plan k.run.planned.report.delivered k.said k.ran text a k.says (plan_run_finishes law w (first_tool w) 1 s k.said k.ran k.run.planned can (none_failed w t still)))

pub produce_finishes : RunsFinish → (name : List ℕ) → Finishes (produce name)
produce_finishes law name = finishes_over (survey_of name) Produces CanRun (runs_done law)
