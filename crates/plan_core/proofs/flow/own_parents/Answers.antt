use Rattle.std.proofs.Common.{◌∙◌}
use Rattle.plan_core.proofs.FlowLemmas.{parents_decided}
use Rattle.plan_core.proofs.flow.own_parents.Goals as goal

pub returns : goal.returns
returns c = parents_decided c.args.plan.now c.args.task.0 c.deref.result.now c.args.needed.now c.fit.result (c.deref.ensures.value ∙ c.in_ok-listed.ensures ∙ c.parents.ensures) c.requires.rises c.requires.needed c.fit.ensures
