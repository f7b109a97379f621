use Rattle.std.proofs.Common.{subst, ◌∙◌}
use Rattle.site_yard.specs.code.Failures.{AreMore}
use Rattle.site_yard.specs.code.Opening.{looks}
use Rattle.site_yard.proofs.OpenLemmas.{opens, refuses_as, wants_first, wants_last}
use Rattle.site_yard.proofs.ListLemmas.{list_empty}
use Rattle.site_yard.specs.declared.opening.OpenFault.TheVariants.{Memory}
use Rattle.site_yard.proofs.yard.Yard.open.Goals as goal
use Rattle.site_yard.proofs.yard.Yard.open.Goals.{in-Err, in-Ok, in-Err-mark, in-Ok-mark+in-Err-look}

pub invariant_of-result-clause-kept : goal.invariant_of-result-clause-kept
invariant_of-result-clause-kept g c =
    opens g.T.Tool.apply c.in-Ok-over.book.plan _ c.in-Ok-over.book.history.events _ _ _ _ _ _ (looks c.plan-in-Ok-mark.result.now) (g.H.Host.counts c.args.host) _ c.in-Ok-over.ensures.history (c.look.ensures.told ∙ c.mark.ensures.told) c.look.ensures.marked c.in-Ok-mark.ensures.ok c.faults-faults.ensures c.misses-misses.ensures
    (subst (λ z. AreMore (looks c.plan-in-Ok-mark.result.now) 0 0 z (g.H.Host.counts c.look.new.host)) c.mark.ensures.counts c.in-Ok-look.ensures.answer.1)

pub invariant_of-result-clause-listed : goal.invariant_of-result-clause-listed
invariant_of-result-clause-listed g c = list_empty g.T.Tool.apply _ _ _ _ _ c.in-Ok-over.ensures.history c.in-Ok.ensures.items

pub returns-clause-refused : goal.returns-clause-refused
returns-clause-refused g c =
    let p = c.args.ordered.plan in
    let host = c.args.host in
    let told = g.H.Host.told in
    let st = g.H.Host.counts in
    elim c.match-with_capacity.branch [
      | in-Err w ↦ rw (w.host-is, w.fault-is) (wants_first p (told host) (st host))
      | in-Ok w ↦ elim w.match-mark.branch [
        | in-Err-mark v ↦ rw (w.host-is, w.fault-is, v.host-is, v.fault-is, w.mark.ensures.counts) (wants_first p (told host) (st host))
        | in-Ok-mark+in-Err-look v ↦ rw (w.host-is, w.fault-is, v.host-is, v.fault-is)
            (refuses_as p v.plan-in-Ok-mark.result.now (told host) (told w.mark.new.self) (st host) (st w.mark.new.self) (st v.look.new.host) v.in-Err-look.fault v.plan-in-Ok-mark.ensures w.mark.ensures.told w.mark.ensures.counts v.in-Err-look.ensures.answer)
      ]
    ]

pub returns-in-Err-over-clause-refused : goal.returns-in-Err-over-clause-refused
returns-in-Err-over-clause-refused g c =
    let told = g.H.Host.told in
    let st = g.H.Host.counts in
    let host = c.args.host in
    refuses_as c.args.ordered.plan c.plan-in-Ok-mark.result.now (told host) (told c.mark.new.self) (st host) (st c.mark.new.self) (st c.look.new.host) Memory c.plan-in-Ok-mark.ensures c.mark.ensures.told c.mark.ensures.counts
    (wants_last c.plan-in-Ok-mark.result.now (told c.mark.new.self) (st c.mark.new.self) (st c.look.new.host) c.in-Ok-look.ensures.answer)
