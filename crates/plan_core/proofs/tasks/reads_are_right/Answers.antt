use Rattle.std.proofs.Common.{List, subst}
use Rattle.std.specs.Prelude.{Some}
use Rattle.plan_core.specs.code.Files.{AreFilesOf}
use Rattle.plan_core.specs.Kinds.{kind_reads}
use Rattle.plan_core.specs.declared.plan.PlanJob.{PlanJob}
use Rattle.plan_core.proofs.TasksLemmas.{reads_decided}
use Rattle.plan_core.proofs.tasks.reads_are_right.Goals as goal

pub returns : goal.returns
returns c = reads_decided c.args.plan.now c.args.task.now c.in_ok-read.read c.reads_fit.result c.requires
    (subst (λ (js : List PlanJob). AreFilesOf (kind_reads js (Some c.args.task.now.kind)) c.in_ok-read.read) c.as_slice.ensures c.in_ok-read.ensures) c.reads_fit.ensures
