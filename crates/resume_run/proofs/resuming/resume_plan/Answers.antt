use Rattle.std.proofs.Common.{inr, subst}
use Rattle.std.proofs.Math.Logic.{∥∥₁_map}
use Rattle.plan_core.specs.Words.{task_numbers}
use Rattle.plan_run.specs.code.Moments.{counting, crew_moment, first_shown, work_moment, working}
use Rattle.resume_run.specs.Resuming.{HasGoneOn}
use Rattle.resume_run.proofs.ResumingLemmas.{numbers_one, unfailing_in}
use Rattle.resume_run.proofs.resuming.resume_plan.Goals as goal

pub go_on-requires-clause-order : goal.go_on-requires-clause-order
go_on-requires-clause-order g c = numbers_one _ _ c.in-Ok.ensures.1.followed.order_is

pub go_on-requires-clause-unfailing : goal.go_on-requires-clause-unfailing
go_on-requires-clause-unfailing g c = unfailing_in c.args.ordered.plan (task_numbers c.args.ordered.tasks.items) c.args.history.now.events c.in-Ok.replayed.book c.fails_show_in_the_state.ensures.none c.in-Ok.ensures.1.followed

pub returns-in-Ok-clause-resumes : goal.returns-in-Ok-clause-resumes
returns-in-Ok-clause-resumes g c =
    let p = c.args.ordered.plan in
    let order = task_numbers c.args.ordered.tasks.items in
    let old = crew_moment g.T.Tool g.G.Gate c.args.crew.now.items in
    let new = crew_moment g.T.Tool g.G.Gate c.go_on.new.crew.items in
    let w = working g.T.Tool.apply g.T.Tool.known (work_moment g.H.Host c.args.host (first_shown old)) (work_moment g.H.Host c.go_on.result.host (first_shown new)) in
    ∥∥₁_map c.go_on.ensures.gone_on (λ gone. inr (record {
      legal = c.in-Ok.ensures.0;
      gone_on = subst (λ r. HasGoneOn w (counting old new) p order r c.go_on.result.text.items c.go_on.result.end) c.in-Ok.ensures.1.followed.history gone;
    }))
