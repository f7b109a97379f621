-- The answers of `alone`.
use Rattle.std.proofs.Common.{ℕ, ◌<◌, zero, suc, List, inl, inr, arith}
use Rattle.std.specs.Prelude.{Option}
use Rattle.std.proofs.Math.Logic.{∥∥₁_elim, ∥∥₁_map}
use Rattle.outside.specs.code.Counts.{Rose}
use Rattle.values.specs.declared.numbers.TaskId.{TaskId}
use Rattle.plan_core.specs.declared.plan.Plan.{Plan}
use Rattle.plan_core.specs.Words.{task_numbers}
use Rattle.run_record.specs.code.Events.{Log}
use Rattle.planner.specs.code.Deliveries.{DeliversRequests}
use Rattle.planner.specs.code.Meaning.{MeansWorkflow}
use Rattle.planner.specs.declared.surveyed.Surveyed.{Surveyed}
use Rattle.site_yard.specs.declared.delivered.Delivered.{Delivered}
use Rattle.plan_run.specs.code.Finishing.{NoneFailed}
use Rattle.plan_run.specs.Moments.{Tools, Work}
use Rattle.plan_run.specs.code.Moments.{count_of, first_tool}
use Rattle.plan_run.specs.code.Running.{End, HasRunAlone, reporting}
use Rattle.pegasus_commands.specs.code.Commands.Alone.{HasRunFirst, RunsAlone, alone}
use Rattle.pegasus_commands.specs.code.CommandSpec.{Finishes, NoneRoseAtWork}
use Rattle.pegasus_commands.specs.code.Fault.{Answer, IsDoneOrMemory, end_answer}
use Rattle.pegasus_commands.specs.code.PlanRun.{CanRun, IsReady}
use Rattle.pegasus_commands.proofs.FaultLemmas.{done_prop}
use Rattle.pegasus_commands.proofs.PlanRunLemmas.{HasDeliveryLaws, RunsFinish, plan_run_finishes, run_is, unrun_finishes}
use Rattle.pegasus_commands.specs.code.Survey.{survey_of}
use Rattle.pegasus_commands.proofs.InputSpecLemmas.{finishes_over}

-- A plan was run by the first member of the crew.
pub alone_is : (w : Work) (t : Tools) (s : Surveyed) (p : Plan) (order : List TaskId) (log : Option Log) (text : List ℕ) (ds : List Delivered) (e : End) → IsReady w.known s p order → HasDeliveryLaws p (task_numbers order) → DeliversRequests s.request s.survey p → MeansWorkflow s.request s.survey p
    → ∥ HasRunAlone w p (task_numbers order) (reporting log text ds) e ∥₁ → RunsAlone w t s text (end_answer e)
alone_is w t s p order log text ds e ready laws requests means run = inr (∥∥₁_map run (λ (h : HasRunAlone w p (task_numbers order) (reporting log text ds) e). record {
  planned = run_is w (first_tool w) 1 s p order (reporting log text ds) e ready laws requests means h.ran;
  in_order = h.in_order;
  asked = h.asked;
}))

first_still : (w : Work) → (Rose w.before.tool w.after.tool → ⊥) → (k : ℕ) → k < 1 → Rose (count_of (first_tool w).before k) (count_of (first_tool w).after k) → ⊥
first_still w still zero l rose = still rose
first_still w still (suc k) l rose = absurd (omega (arith, l))

pub none_failed : (w : Work) (t : Tools) → NoneRoseAtWork w t → NoneFailed w (first_tool w) 1
none_failed w t still = record { host = still.host; tools = first_still w still.tool }

pub runs_done : (law : RunsFinish) (w : Work) (t : Tools) (s : Surveyed) (text : List ℕ) (a : Answer) → RunsAlone w t s text a → CanRun w s → NoneRoseAtWork w t → IsDoneOrMemory a
runs_done law w t s text a (inl h) can still = unrun_finishes w (first_tool w) s text a h can
runs_done law w t s text a (inr h) can still = ∥∥₁_elim h (done_prop a) (λ (k : HasRunFirst w s text a). plan_run_finishes law w (first_tool w) 1 s text a k.planned can (none_failed w t still))

pub alone_finishes : RunsFinish → (name : List ℕ) → Finishes (alone name)
alone_finishes law name = finishes_over (survey_of name) RunsAlone CanRun (runs_done law)
