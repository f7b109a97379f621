use Rattle.std.proofs.Common.{sym, ap, subst, ◌∙◌, refl, map}
use Rattle.values.specs.Apply.{all_of}
use Rattle.plan_core.specs.Words.{file_numbers}
use Rattle.task_work.specs.Running.{RunsTool}
use Rattle.task_work.specs.Table.{at}
use Rattle.task_work.proofs.RunningLemmas.{found_none, found_some, input_missing, no_job, runs_job}
use Rattle.task_work.proofs.running.run_job.Goals as goal

pub returns-in-None-clause-answer : goal.returns-in-None-clause-answer
returns-in-None-clause-answer g c = (no_job g.T.Tool.apply c.args.plan.now.jobs c.args.number.0 (at c.args.table.now) (sym c.in-None.ensures), refl)

pub returns-in-Ok-Some-clause-answer : goal.returns-in-Ok-Some-clause-answer
returns-in-Ok-Some-clause-answer g c =
    runs_job g.T.Tool.apply c.args.plan.now.jobs c.args.number.0 c.in-Some.job.now (at c.args.table.now) (at c.fill_outputs.new.table) c.in-Ok-Some.inputs.items (g.T.Tool.faults c.args.tool.now) (g.T.Tool.faults c.fill_outputs.new.tool) c.fill_outputs.result
    (sym c.in-Some.ensures)
    (ap (λ fs. all_of (map (at c.args.table.now) (file_numbers fs))) (sym c.as_slice.ensures) ∙ found_some _ c.in-Ok-Some.field-0 c.in-Ok-Some.inputs c.in-Ok-Some.ensures c.in-Ok-Some.field-0-is)
    (subst (λ ins. RunsTool g.T.Tool.apply c.in-Some.job.now c.args.number.0 ins (at c.args.table.now) (at c.fill_outputs.new.table) (g.T.Tool.faults c.args.tool.now) (g.T.Tool.faults c.fill_outputs.new.tool) c.fill_outputs.result) c.deref.ensures.value c.fill_outputs.ensures.answer)

pub returns-in-Ok-None-clause-answer : goal.returns-in-Ok-None-clause-answer
returns-in-Ok-None-clause-answer g c = (
  input_missing g.T.Tool.apply c.args.plan.now.jobs c.args.number.0 c.in-Some.job.now (at c.args.table.now) (sym c.in-Some.ensures)
      (ap (λ fs. all_of (map (at c.args.table.now) (file_numbers fs))) (sym c.as_slice.ensures) ∙ found_none _ c.in-Ok-None.field-0 c.in-Ok-None.ensures c.in-Ok-None.field-0-is),
  refl,
)
