use Rattle.std.proofs.Common.{List, ap, ◌∙◌}
use Rattle.plan_core.specs.code.Tasks.{kind_in_sequence}
use Rattle.plan_core.specs.declared.plan.PlanJob.{PlanJob}
use Rattle.plan_core.proofs.TasksLemmas.{task_decided}
use Rattle.plan_core.proofs.tasks.is_task.Goals as goal

pub returns : goal.returns
returns c = task_decided c.args.plan.now c.args.task.now c.all_four.result c.in_ok-reads.reads c.in_ok-writes.writes c.in_ok-sequence.sequence c.is_kind_sized-sized.result
    c.in_ok-reads.ensures c.in_ok-writes.ensures (c.in_ok-sequence.ensures ∙ ap (λ (js : List PlanJob). kind_in_sequence js c.args.task.now.kind) c.as_slice.ensures) c.is_kind_sized-sized.ensures c.all_four.ensures
