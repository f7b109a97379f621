-- The answers of `run`.
use Rattle.std.proofs.Common.{ℕ, List, inl, inr}
use Rattle.std.specs.Prelude.{Option}
use Rattle.std.proofs.Math.Logic.{∥∥₁_elim, ∥∥₁_map}
use Rattle.values.specs.declared.numbers.TaskId.{TaskId}
use Rattle.plan_core.specs.declared.plan.Plan.{Plan}
use Rattle.plan_core.specs.Words.{task_numbers}
use Rattle.run_record.specs.code.Events.{Log}
use Rattle.planner.specs.code.Deliveries.{DeliversRequests}
use Rattle.planner.specs.code.Meaning.{MeansWorkflow}
use Rattle.planner.specs.declared.surveyed.Surveyed.{Surveyed}
use Rattle.site_yard.specs.declared.delivered.Delivered.{Delivered}
use Rattle.plan_run.specs.Moments.{Tools, Work}
use Rattle.plan_run.specs.code.Running.{End, HasRun, reporting}
use Rattle.pegasus_commands.specs.code.Commands.Run.{RunsMany, run}
use Rattle.pegasus_commands.specs.code.CommandSpec.{Finishes, NoneRoseAtWork}
use Rattle.pegasus_commands.specs.code.Fault.{Answer, IsDoneOrMemory, end_answer}
use Rattle.pegasus_commands.specs.code.PlanRun.{CanRun, HasRunPlan, IsReady}
use Rattle.pegasus_commands.proofs.FaultLemmas.{done_prop}
use Rattle.pegasus_commands.proofs.PlanRunLemmas.{HasDeliveryLaws, RunsFinish, plan_run_finishes, run_is, unrun_finishes}
use Rattle.pegasus_commands.specs.code.Survey.{survey_of}
use Rattle.pegasus_commands.proofs.InputSpecLemmas.{finishes_over}

-- A plan was run by several members of the crew.
pub many_is : (w : Work) (t : Tools) (n : ℕ) (s : Surveyed) (p : Plan) (order : List TaskId) (log : Option Log) (text : List ℕ) (ds : List Delivered) (e : End) → IsReady w.known s p order → HasDeliveryLaws p (task_numbers order) → DeliversRequests s.request s.survey p → MeansWorkflow s.request s.survey p
    → ∥ HasRun w t n p (task_numbers order) (reporting log text ds) e ∥₁ → RunsMany n w t s text (end_answer e)
many_is w t n s p order log text ds e ready laws requests means run = inr (∥∥₁_map run (λ (h : HasRun w t n p (task_numbers order) (reporting log text ds) e). run_is w t n s p order (reporting log text ds) e ready laws requests means h))

pub runs_done : (law : RunsFinish) (n : ℕ) (w : Work) (t : Tools) (s : Surveyed) (text : List ℕ) (a : Answer) → RunsMany n w t s text a → CanRun w s → NoneRoseAtWork w t → IsDoneOrMemory a
runs_done law n w t s text a (inl h) can still = unrun_finishes w t s text a h can
runs_done law n w t s text a (inr h) can still = ∥∥₁_elim h (done_prop a) (λ (k : HasRunPlan w t n s text a). plan_run_finishes law w t n s text a k can (record { host = still.host; tools = λ j l. still.tools j }))

pub run_finishes : RunsFinish → (name : List ℕ) (workers : ℕ) → Finishes (run name workers)
run_finishes law name workers = finishes_over (survey_of name) (RunsMany workers) CanRun (runs_done law workers)
