use Rattle.std.proofs.Common.{[], length, take, ◌∙◌, ap, refl, subst, sym}
use Rattle.std.proofs.Math.Logic.{∥∥₁_elim, ∥∥₁_map, ∥∥₁_prop}
use Rattle.std.specs.Prelude.{is_some}
use Rattle.plan_core.specs.Words.{task_numbers}
use Rattle.storage_simulation.specs.declared.ordered.Ordered.{Ordered}
use Rattle.lease_rules.specs.State.{now}
use Rattle.worker_gate.specs.code.Alone.{IsOver}
use Rattle.plan_run.specs.code.Moments.{counting, crew_moment, first_shown, work_moment, working}
use Rattle.plan_run.specs.code.Running.{reporting}
use Rattle.plan_run.proofs.RunningLemmas.{marked_so, over_in, ran, was_refused}
use Rattle.plan_run.proofs.RunningManyLemmas.{gates_shown, many_end, runs_shown, told_shown, tools_shown}
use Rattle.plan_run.proofs.running_many.run_members.Goals as goal

pub returns-in-Ok-clause-ran : goal.returns-in-Ok-clause-ran
returns-in-Ok-clause-ran g c =
    let p = c.args.ordered.plan in
    let order = task_numbers c.args.ordered.tasks.items in
    let many = c.run_many-end.result in
    let y = many.yard in
    let r = y.book.history.events in
    let n = length c.args.members.items in
    let old = crew_moment g.T.Tool g.G.Gate c.args.members.items in
    let new = crew_moment g.T.Tool g.G.Gate many.crew.items in
    let x = reporting c.end_many-ran.result.history c.end_many-ran.result.text.items c.end_many-ran.result.delivered.items in
    let end_ = c.end_many-ran.result.end in
    let same = c.run_many-end.ensures.ordered ∙ c.in-Ok.ensures.ordered in
    let legal = rw same at c.agrees.ensures.legal in
    let fresh = c.run_many-end.ensures.opened ∙ ap (λ n. take n c.in-Ok.yard.book.history.events) c.in-Ok.ensures.opened in
    let shows = rw same at c.agrees.ensures.shows in
    let ends = rw same at c.end_many-ran.ensures.ends in
    let reports = rw same at c.end_many-ran.ensures.reports in
    let works = rw c.in-Ok.ensures.ordered at c.run_many-end.ensures.works in
    let inputs = rw c.in-Ok.ensures.ordered at c.run_many-end.ensures.inputs in
    let runs = rw c.in-Ok.ensures.ordered at c.run_many-end.ensures.runs in
    let fits = c.ordered_plans_fit.ensures c.args.ordered in
    let before = work_moment g.H.Host c.args.host (first_shown old) in
    let after = work_moment g.H.Host y.host (first_shown new) in
    let w = working g.T.Tool.apply g.T.Tool.known before after in
    let t = counting old new in
    let end = many_end w t n p order r many.unstarted (g.H.Host.told y.host) (g.H.Host.marked y.host) y.faults y.misses refl
    (c.run_many-end.ensures.tells ∙ ap is_some c.in-Ok.ensures.told)
    (marked_so (g.H.Host.told c.args.host) _ _ c.run_many-end.ensures.marked c.in-Ok.ensures.marked)
    (c.run_many-end.ensures.faults ∙ c.in-Ok.ensures.faults)
    (c.run_many-end.ensures.misses ∙ c.in-Ok.ensures.misses)
    works (λ u. (c.run_many-end.ensures.unstarted u).0)
    (tools_shown g.T.Tool g.G.Gate r c.args.members.items many.crew.items c.run_many-end.ensures.tools)
    (runs_shown g.T.Tool g.G.Gate p r c.args.members.items many.crew.items runs)
    (told_shown g.T.Tool g.G.Gate r c.args.members.items many.crew.items c.run_many-end.ensures.told) inputs in
    rw c.end_many-ran.ensures.host (∥∥₁_elim legal ∥∥₁_prop (λ l. ∥∥₁_elim shows ∥∥₁_prop (λ s. ∥∥₁_map c.agrees.ensures.counted (λ k.
    ran w t n p order r y.opened (g.H.Host.told y.host) (g.H.Host.marked y.host) y.faults y.misses x end_ fresh c.in-Ok.ensures.unused works.none_open
    (gates_shown g.T.Tool g.G.Gate r c.args.members.items many.crew.items c.run_many-end.ensures.members c.run_many-end.ensures.gates) end
    (record {
      laws = record {
        safe = λ j. c.legal_records_are_safe.ensures.always p order r c.args.ordered.proper fits l j;
        output = c.deliveries_stay_within_the_output.ensures p order r c.args.ordered.proper fits l;
        left = λ j site. c.what_is_left_is_held.ensures p order r c.args.ordered.proper fits l j site;
      };
      legal = l;
      agrees = s;
      counted = k;
    })
    ends reports))))

pub returns-in-Err-clause-ran : goal.returns-in-Err-clause-ran
returns-in-Err-clause-ran g c =
    let p = c.args.ordered.plan in
    let order = task_numbers c.args.ordered.tasks.items in
    let fits = c.ordered_plans_fit.ensures c.args.ordered in
    let refusal = rw c.in-Err.ensures.back.0 at c.refuse_run.ensures.refusal in
    let old = crew_moment g.T.Tool g.G.Gate c.args.members.items in
    let before = work_moment g.H.Host c.args.host (first_shown old) in
    let after = work_moment g.H.Host c.in-Err.refused.host (first_shown old) in
    let w = working g.T.Tool.apply g.T.Tool.known before after in
    rw c.refuse_run.ensures.host (∣ was_refused w (counting old old) (length c.args.members.items) p order c.in-Err.refused.fault (reporting c.refuse_run.result.history c.refuse_run.result.text.items c.refuse_run.result.delivered.items) c.refuse_run.result.end
    (record {
      safe = λ n. c.legal_records_are_safe.ensures.always p order [] c.args.ordered.proper fits tt n;
      output = c.deliveries_stay_within_the_output.ensures p order [] c.args.ordered.proper fits tt;
      left = λ n site. c.what_is_left_is_held.ensures p order [] c.args.ordered.proper fits tt n site;
    })
    c.in-Err.ensures.back.1 refl c.in-Err.ensures.refused refusal ∣₁)

pub end_many-ran-requires : goal.end_many-ran-requires
end_many-ran-requires g c =
    let y = c.run_many-end.result.yard in
    record {
      over = λ begun. over_in y.book y.ordered.value.plan y.ordered.value.tasks.items y.same_plan y.same_order
          (subst (λ (o : Ordered). IsOver o.plan (now o.plan (task_numbers o.tasks.items) y.book.history.events)) (sym c.run_many-end.ensures.ordered) (c.run_many-end.ensures.works.over begun));
    }
