use Rattle.std.proofs.Common.{length, subst, sym, ap, ◌∙◌}
use Rattle.plan_core.specs.Words.{task_numbers}
use Rattle.run_record.specs.code.Events.{Log}
use Rattle.lease_book.specs.Book.{state_at}
use Rattle.site_yard.specs.code.Failures.{AreMore}
use Rattle.site_yard.specs.code.Reopening.{AreRecorded, measures}
use Rattle.site_yard.proofs.ReopenLemmas.{lists_none, refuses_as, reopens, wants_first}
use Rattle.site_yard.proofs.yard.Yard.reopen.Goals as goal
use Rattle.site_yard.proofs.yard.Yard.reopen.Goals.{in-Err, in-Ok, in-Err-mark, in-Ok-mark+in-Err-check_pairs}

pub invariant_of-result-clause-kept : goal.invariant_of-result-clause-kept
invariant_of-result-clause-kept g c =
    let b = c.args.book in
    let held = (state_at b).held in
    let all = c.len-opened.ensures.events ∙ ap (λ (h : Log). length h.events) c.record.ensures.value in
    let plan = c.plan-in-Ok-mark.ensures ∙ sym c.requires.plan in
    let recorded = subst (λ p. AreRecorded p held (g.H.Host.told c.args.host)) plan (subst (AreRecorded c.plan-in-Ok-mark.result.now held) c.mark.ensures.told c.in-Ok-check_pairs.ensures.answer.0) in
    let asked = subst (λ p. AreMore (measures p held) 0 0 (g.H.Host.counts c.args.host) (g.H.Host.counts c.check_pairs.new.host)) plan (subst (λ z. AreMore (measures c.plan-in-Ok-mark.result.now held) 0 0 z (g.H.Host.counts c.check_pairs.new.host)) c.mark.ensures.counts c.in-Ok-check_pairs.ensures.answer.1) in
    reopens g.T.Tool.apply b.plan (task_numbers b.order.items) b.history.events _ _ _ _ _ _ _ (measures b.plan held) (g.H.Host.counts c.args.host) _ all (c.check_pairs.ensures.told ∙ c.mark.ensures.told) c.check_pairs.ensures.marked c.in-Ok-mark.ensures.ok c.faults-faults.ensures c.misses-misses.ensures recorded asked

pub invariant_of-result-clause-listed : goal.invariant_of-result-clause-listed
invariant_of-result-clause-listed g c =
    let all = c.len-opened.ensures.events ∙ ap (λ (h : Log). length h.events) c.record.ensures.value in
    lists_none g.T.Tool.apply _ _ _ _ _ _ all c.in-Ok.ensures.items

pub returns-clause-refused : goal.returns-clause-refused
returns-clause-refused g c =
    let p = c.args.ordered.plan in
    let held = (state_at c.args.book).held in
    let host = c.args.host in
    let told = g.H.Host.told in
    let st = g.H.Host.counts in
    elim c.match-with_capacity.branch [
      | in-Err w ↦ rw (w.host-is, w.fault-is) (wants_first p held (told host) (st host))
      | in-Ok w ↦ elim w.match-mark.branch [
        | in-Err-mark v ↦ rw (w.host-is, w.fault-is, v.host-is, v.fault-is, w.mark.ensures.counts) (wants_first p held (told host) (st host))
        | in-Ok-mark+in-Err-check_pairs v ↦ rw (w.host-is, w.fault-is, v.host-is, v.fault-is)
            (refuses_as p v.plan-in-Ok-mark.result.now held (told host) (told w.mark.new.self) (st host) (st w.mark.new.self) (st v.check_pairs.new.host) v.in-Err-check_pairs.fault v.plan-in-Ok-mark.ensures w.mark.ensures.told w.mark.ensures.counts v.in-Err-check_pairs.ensures.answer)
      ]
    ]
