use Rattle.std.proofs.Common.{◌∙◌, ap, inr, refl, subst}
use Rattle.std.specs.Prelude.{is_some}
use Rattle.std.proofs.Math.Logic.{∥∥₁_elim, ∥∥₁_map, ∥∥₁_prop}
use Rattle.plan_core.specs.Words.{task_numbers}
use Rattle.site_yard.specs.code.Failures.{AreMore}
use Rattle.site_yard.specs.code.Reopening.{AreRecorded, RefusesAgain, measures}
use Rattle.plan_run.specs.code.Moments.{counting, crew_moment, first_shown, work_moment, working}
use Rattle.resume_run.specs.Resuming.{continued}
use Rattle.plan_run.specs.code.Running.{reporting}
use Rattle.plan_run.proofs.RunningLemmas.{marked_so, takes_calls}
use Rattle.resume_run.proofs.ResumingLemmas.{asked_same, below_by, held_in, inputs_added, not_reopened, over_since, parts_of, went_on}
use Rattle.resume_run.proofs.RunsLemmas.{ran_since}
use Rattle.resume_run.proofs.TellingLemmas.{told_since}
use Rattle.resume_run.proofs.resuming.go_on.Goals as goal

pub returns-in-Ok-clause-gone_on : goal.returns-in-Ok-clause-gone_on
returns-in-Ok-clause-gone_on g c =
    let p = c.args.ordered.plan in
    let ts = c.args.ordered.tasks.items in
    let order = task_numbers ts in
    let b = c.args.replayed.book in
    let first = b.history.events in
    let x = c.in-Ok.yard in
    let y = c.work_on-yard.result in
    let whole = y.book.history.events in
    let e = c.in-Ok.ensures in
    let f = c.work_on-yard.ensures in
    let old = crew_moment g.T.Tool g.G.Gate c.args.crew.now.items in
    let new = crew_moment g.T.Tool g.G.Gate c.work_on-yard.new.crew.items in
    let before = work_moment g.H.Host c.args.host (first_shown old) in
    let after = work_moment g.H.Host y.host (first_shown new) in
    let w = working g.T.Tool.apply g.T.Tool.known before after in
    let same = f.same.ordered ∙ e.ordered in
    let all = f.same.opened ∙ e.opened in
    let works = rw (e.ordered, e.book) at f.works in
    let inputs = rw (e.ordered, e.book) at f.inputs in
    let calls = rw (e.ordered, e.book) at f.calls in
    let told = rw e.book at f.told in
    let runs = rw (e.ordered, e.book) at f.runs in
    let legal = rw same at c.agrees.ensures.legal in
    let shows = rw same at c.agrees.ensures.shows in
    let ran = c.end_run.result in
    let report = reporting ran.history ran.text.items ran.delivered.items in
    let ends = rw same at c.end_run.ensures.ends in
    let reports = rw same at c.end_run.ensures.reports in
    let held = held_in b p ts c.requires.plan c.requires.order in
    let recorded = subst (λ h. AreRecorded p h (g.H.Host.told c.args.host)) held e.recorded in
    let looked = subst (λ h. AreMore (measures p h) 0 0 (g.H.Host.counts c.args.host) (g.H.Host.counts x.host)) held e.asked in
    let fits = c.ordered_plans_fit.ensures c.args.ordered in
    rw (c.of_run.ensures.host, c.end_run.ensures.host, c.of_run.ensures.text, c.of_run.ensures.end) (∥∥₁_elim legal ∥∥₁_prop (λ l. ∥∥₁_elim shows ∥∥₁_prop (λ s. ∥∥₁_map c.agrees.ensures.counted (λ k.
    went_on w (counting old new) p order first works.added whole y.opened (g.H.Host.told y.host) (g.H.Host.marked y.host) y.faults y.misses report ran.end (parts_of first works.added whole y.opened works.is all)
    (record {
      told_is = refl;
      tells = f.same.tells ∙ ap is_some e.told;
      marked_is = marked_so (g.H.Host.told c.args.host) _ _ f.same.marked e.marked;
      faults_are = f.same.faults ∙ e.faults;
      misses_are = f.same.misses ∙ e.misses;
      below = below_by first works.added whole works.is (c.nothing_else_fails.ensures.workers p order whole l);
      over = inr (over_since p order first works.added whole works.is works.over);
      inputs = inputs_added g.T.Tool.apply p first works.added whole works.is inputs;
      tools = works.tools;
      ran = λ i l. ran_since p first works.added whole old new works.is runs i;
      entered = λ i l. told_since first works.added whole old new works.is told i;
    })
    (record {
      laws = record {
        safe = λ n. c.legal_records_are_safe.ensures.always p order whole c.args.ordered.proper fits l n;
        output = c.deliveries_stay_within_the_output.ensures p order whole c.args.ordered.proper fits l;
        left = λ n site. c.what_is_left_is_held.ensures p order whole c.args.ordered.proper fits l n site;
      };
      legal = l;
      agrees = s;
      counted = k;
    })
    recorded works.in_order
    (asked_same g.T.Tool g.G.Gate c.args.crew.now.items c.work_on-yard.new.crew.items f.asked)
    (takes_calls w p (continued p order first) first works.added whole (g.H.Host.counts x.host) (g.H.Host.counts y.host) works.is f.same.later.done looked calls refl)
    ends reports))))

pub returns-clause-gone_on : goal.returns-clause-gone_on
returns-clause-gone_on g c =
    let p = c.args.ordered.plan in
    let ts = c.args.ordered.tasks.items in
    let order = task_numbers ts in
    let b = c.args.replayed.book in
    let first = b.history.events in
    let e = c.in-Err.ensures in
    let fits = c.ordered_plans_fit.ensures c.args.ordered in
    let moments = crew_moment g.T.Tool g.G.Gate c.args.crew.now.items in
    let before = work_moment g.H.Host c.args.host (first_shown moments) in
    let w = working g.T.Tool.apply g.T.Tool.known before (work_moment g.H.Host c.in-Err.refused.host (first_shown moments)) in
    let legal = rw (c.record.ensures.value, c.requires.plan, c.requires.order) at c.record.ensures.legal in
    let held = held_in b p ts c.requires.plan c.requires.order in
    let refuses = subst (λ h. RefusesAgain p h (g.H.Host.told c.args.host) (g.H.Host.counts c.args.host) (g.H.Host.counts c.in-Err.refused.host) c.in-Err.refused.fault) held e.refused in
    let refusal = rw e.back.0 at c.refuse_run.ensures.refusal in
    let ran = c.refuse_run.result in
    let report = reporting ran.history ran.text.items ran.delivered.items in
    rw (c.of_run-in-Err.ensures.host, c.refuse_run.ensures.host, c.of_run-in-Err.ensures.text, c.of_run-in-Err.ensures.end) (∥∥₁_map legal (λ l. not_reopened w (counting moments moments) p order first c.in-Err.refused.fault report ran.end
    (record {
      safe = λ n. c.legal_records_are_safe.ensures.always p order first c.args.ordered.proper fits l n;
      output = c.deliveries_stay_within_the_output.ensures p order first c.args.ordered.proper fits l;
      left = λ n site. c.what_is_left_is_held.ensures p order first c.args.ordered.proper fits l n site;
    })
    l e.back.1 refl refuses refusal))
