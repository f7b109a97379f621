use Rattle.std.proofs.Common.{◌∙◌, ap, map, List, subst}
use Rattle.plan_core.specs.declared.plan.PlanJob.{PlanJob}
use Rattle.transfer_refiner.specs.code.View.{draft_of}
use Rattle.transfer_refiner.specs.code.Steps.{AreTasks}
use Rattle.transfer_refiner.specs.Tasks.{planned_site}
use Rattle.transfer_refiner.proofs.TogetherLemmas.{refined_of}
use Rattle.transfer_refiner.proofs.refining.plan_of.Goals as goal

pub returns : goal.returns
returns c = refined_of (draft_of c.args.view.now) _ c.in_ok-workflow.ensures c.policy_copied.ensures (c.in_ok-sites.ensures ∙ ap (map planned_site) c.as_slice.ensures) c.in_ok-files.ensures c.in_ok-jobs.ensures c.requires.pairs
    (subst (λ (js : List PlanJob). AreTasks (draft_of c.args.view.now) js c.in_ok-tasks.tasks) c.as_slice-2.ensures c.in_ok-tasks.ensures)
