use Rattle.site_yard.proofs.PartLemmas.{both_whole, drafts_refused, given_whole, later_both, readings_refused}
use Rattle.site_yard.proofs.lending.make_loan.Goals as goal

pub returns-in-Err-clause-refused : goal.returns-in-Err-clause-refused
returns-in-Err-clause-refused g c =
    let st = g.H.Host.counts in
    let whole = c.in-Err.ensures.whole in
    readings_refused c.args.plan.now c.args.task.0 (g.H.Host.told c.args.host.now) (st c.args.host.now) (st c.open_readings.new.host) (st c.finish_all.new.host) c.in-Err.cause c.in-Err.ensures.answer
    (given_whole _ (st c.open_readings.new.host) (st c.finish_all.new.host) whole c.finish_all.ensures.asked) c.finish_all.ensures.later

pub returns-in-Err-make_drafts-clause-refused : goal.returns-in-Err-make_drafts-clause-refused
returns-in-Err-make_drafts-clause-refused g c =
    let st = g.H.Host.counts in
    let mid = c.open_readings.new.host in
    let made = c.make_drafts.new.host in
    let back = c.finish_all-in-Err-make_drafts.new.host in
    let gone = c.discard_all.new.host in
    drafts_refused c.args.plan.now c.args.task.0 (g.H.Host.told c.args.host.now) (st c.args.host.now) (st mid) (st made) (st gone) c.in-Err-make_drafts.cause c.in-Ok-open_readings.ensures.answer.1 c.make_drafts.ensures.later c.in-Err-make_drafts.ensures.answer
    (both_whole _ _ (st made) (st back) (st gone) c.in-Ok-open_readings.ensures.whole c.in-Err-make_drafts.ensures.whole c.finish_all-in-Err-make_drafts.ensures.asked c.discard_all.ensures.asked c.discard_all.ensures.later)
    (later_both (st made) (st back) (st gone) c.finish_all-in-Err-make_drafts.ensures.later c.discard_all.ensures.later)
