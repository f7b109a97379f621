use Rattle.std.proofs.Common.{List, subst}
use Rattle.std.specs.Prelude.{Some}
use Rattle.plan_core.specs.code.Files.{AreFilesOf}
use Rattle.plan_core.specs.Kinds.{kind_writes}
use Rattle.plan_core.specs.declared.plan.PlanJob.{PlanJob}
use Rattle.plan_core.proofs.TasksLemmas.{writes_decided}
use Rattle.plan_core.proofs.tasks.writes_are_right.Goals as goal

pub returns : goal.returns
returns c = writes_decided c.args.plan.now c.args.task.now c.in_ok-written.written c.writes_fit.result c.requires
    (subst (λ (js : List PlanJob). AreFilesOf (kind_writes js (Some c.args.task.now.kind)) c.in_ok-written.written) c.as_slice.ensures c.in_ok-written.ensures) c.writes_fit.ensures
