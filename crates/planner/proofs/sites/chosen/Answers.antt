use Rattle.std.proofs.Common.{sym, subst}
use Rattle.plan_request.specs.declared.request.Selector.{Selector}
use Rattle.planner.specs.code.Sites.{Chooses}
use Rattle.planner.proofs.sites.chosen.Goals as goal

pub returns-in-Heft : goal.returns-in-Heft
returns-in-Heft c = subst (λ (x : Selector). Chooses x c.args.request.now c.args.survey.now c.args.kept.now c.args.levels.now c.in_schedule.result) (sym c.in-Heft.is) (c.in_schedule.ensures c.args.levels.now)
