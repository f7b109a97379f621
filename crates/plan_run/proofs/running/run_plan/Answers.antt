use Rattle.std.proofs.Common.{[], ◌∙◌, ap, refl, take}
use Rattle.std.proofs.Math.Logic.{∥∥₁_elim, ∥∥₁_map, ∥∥₁_prop}
use Rattle.std.specs.Prelude.{is_some}
use Rattle.plan_core.specs.Words.{task_numbers}
use Rattle.plan_run.specs.code.Moments.{member_moment, work_moment, working}
use Rattle.plan_run.specs.code.Running.{reporting}
use Rattle.plan_run.proofs.RunningLemmas.{IsAloneEnd, alone_end, alone_was_refused, marked_so, ran_alone}
use Rattle.plan_run.proofs.running.run_plan.Goals as goal

pub returns-in-Ok-clause-ran : goal.returns-in-Ok-clause-ran
returns-in-Ok-clause-ran g c =
    let p = c.args.ordered.plan in
    let order = task_numbers c.args.ordered.tasks.items in
    let y = c.run_alone-yard.result in
    let r = y.book.history.events in
    let x = reporting c.end_run.result.history c.end_run.result.text.items c.end_run.result.delivered.items in
    let end_ = c.end_run.result.end in
    let same = c.run_alone-yard.ensures.same.ordered ∙ c.in-Ok.ensures.ordered in
    let legal = rw same at c.agrees.ensures.legal in
    let fresh = ap (λ n. take n r) (c.run_alone-yard.ensures.same.opened ∙ c.in-Ok.ensures.opened) in
    let shows = rw same at c.agrees.ensures.shows in
    let ends = rw same at c.end_run.ensures.ends in
    let reports = rw same at c.end_run.ensures.reports in
    let works = rw (c.in-Ok.ensures.ordered, c.in-Ok.ensures.history) at c.run_alone-yard.ensures.works in
    let inputs = rw (c.in-Ok.ensures.ordered, c.in-Ok.ensures.history) at c.run_alone-yard.ensures.inputs in
    let calls = rw (c.in-Ok.ensures.ordered, c.in-Ok.ensures.history) at c.run_alone-yard.ensures.calls in
    let entered = rw c.in-Ok.ensures.history at c.run_alone-yard.ensures.told in
    let runs = rw (c.in-Ok.ensures.ordered, c.in-Ok.ensures.history) at c.run_alone-yard.ensures.runs in
    let fits = c.ordered_plans_fit.ensures c.args.ordered in
    let before = work_moment g.H.Host c.args.host (member_moment g.T.Tool g.G.Gate c.args.crew.now) in
    let after = work_moment g.H.Host y.host (member_moment g.T.Tool g.G.Gate c.run_alone-yard.new.crew) in
    let w = working g.T.Tool.apply g.T.Tool.known before after in
    let opened = g.H.Host.counts c.in-Ok.yard.host in
    let alone : IsAloneEnd w p order r opened = record { works = works; inputs = inputs; entered = entered; runs = runs; looked = c.in-Ok.ensures.asked; later = c.run_alone-yard.ensures.same.later; calls = calls } in
    let end = alone_end w p order r opened (g.H.Host.told y.host) (g.H.Host.marked y.host) y.faults y.misses alone refl (c.run_alone-yard.ensures.same.tells ∙ ap is_some c.in-Ok.ensures.told)
    (marked_so (g.H.Host.told c.args.host) _ _ c.run_alone-yard.ensures.same.marked c.in-Ok.ensures.marked) (c.run_alone-yard.ensures.same.faults ∙ c.in-Ok.ensures.faults) (c.run_alone-yard.ensures.same.misses ∙ c.in-Ok.ensures.misses) in
    rw c.end_run.ensures.host (∥∥₁_elim legal ∥∥₁_prop (λ l. ∥∥₁_elim shows ∥∥₁_prop (λ s. ∥∥₁_map c.agrees.ensures.counted (λ k.
    ran_alone w p order r y.opened opened (g.H.Host.told y.host) (g.H.Host.marked y.host) y.faults y.misses x end_ fresh c.in-Ok.ensures.unused alone end
    (record {
      laws = record {
        safe = λ n. c.legal_records_are_safe.ensures.always p order r c.args.ordered.proper fits l n;
        output = c.deliveries_stay_within_the_output.ensures p order r c.args.ordered.proper fits l;
        left = λ n site. c.what_is_left_is_held.ensures p order r c.args.ordered.proper fits l n site;
      };
      legal = l;
      agrees = s;
      counted = k;
    })
    ends reports))))

pub returns-in-Err-clause-ran : goal.returns-in-Err-clause-ran
returns-in-Err-clause-ran g c =
    let p = c.args.ordered.plan in
    let order = task_numbers c.args.ordered.tasks.items in
    let fits = c.ordered_plans_fit.ensures c.args.ordered in
    let refusal = rw c.in-Err.ensures.back.0 at c.refuse_run.ensures.refusal in
    let first = member_moment g.T.Tool g.G.Gate c.args.crew.now in
    let before = work_moment g.H.Host c.args.host first in
    let after = work_moment g.H.Host c.in-Err.refused.host first in
    let w = working g.T.Tool.apply g.T.Tool.known before after in
    rw c.refuse_run.ensures.host (∣ alone_was_refused w p order c.in-Err.refused.fault (reporting c.refuse_run.result.history c.refuse_run.result.text.items c.refuse_run.result.delivered.items) c.refuse_run.result.end
    (record {
      safe = λ n. c.legal_records_are_safe.ensures.always p order [] c.args.ordered.proper fits tt n;
      output = c.deliveries_stay_within_the_output.ensures p order [] c.args.ordered.proper fits tt;
      left = λ n site. c.what_is_left_is_held.ensures p order [] c.args.ordered.proper fits tt n site;
    })
    c.in-Err.ensures.back.1 refl refl refl c.in-Err.ensures.refused refusal ∣₁)
