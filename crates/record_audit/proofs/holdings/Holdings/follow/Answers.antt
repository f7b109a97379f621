use Rattle.std.proofs.Common.{subst, sym}
use Rattle.run_record.specs.declared.entry.Entry.{Entry}
use Rattle.run_record.specs.code.Events.{event}
use Rattle.storage_simulation.specs.code.Standings.{at_in}
use Rattle.lease_rules.specs.State.{held_after}
use Rattle.record_audit.specs.Holdings.{AreSizes}
use Rattle.record_audit.proofs.holdings.Holdings.follow.Goals as goal

pub returns-in-Arrive-clause-shows : goal.returns-in-Arrive-clause-shows
returns-in-Arrive-clause-shows c = λ f shows. subst (λ (e : Entry). AreSizes c.args.plan.now (at_in 0 c.arrive.new.self.sizes.items) (held_after c.args.plan.now (event e) f)) (sym c.in-Arrive.is) (c.arrive.ensures.shows 0 f shows)

pub returns-in-End-clause-shows : goal.returns-in-End-clause-shows
returns-in-End-clause-shows c = λ f shows. subst (λ (e : Entry). AreSizes c.args.plan.now (at_in 0 c.end.new.self.sizes.items) (held_after c.args.plan.now (event e) f)) (sym c.in-End.is) (c.end.ensures.shows 0 f shows)

pub returns-in-Clean-clause-shows : goal.returns-in-Clean-clause-shows
returns-in-Clean-clause-shows c = λ f shows. subst (λ (e : Entry). AreSizes c.args.plan.now (at_in 0 c.clean.new.self.sizes.items) (held_after c.args.plan.now (event e) f)) (sym c.in-Clean.is) (c.clean.ensures.shows 0 f shows)

pub returns-in-Grant-clause-shows : goal.returns-in-Grant-clause-shows
returns-in-Grant-clause-shows c = λ f shows. subst (λ (e : Entry). AreSizes c.args.plan.now (at_in 0 c.begin.new.self.sizes.items) (held_after c.args.plan.now (event e) f)) (sym c.in-Grant.is) (c.begin.ensures.shows 0 f shows)

pub returns-in-Regrant-clause-shows : goal.returns-in-Regrant-clause-shows
returns-in-Regrant-clause-shows c = λ f shows. subst (λ (e : Entry). AreSizes c.args.plan.now (at_in 0 c.begin-in-Regrant.new.self.sizes.items) (held_after c.args.plan.now (event e) f)) (sym c.in-Regrant.is) (c.begin-in-Regrant.ensures.shows 0 f shows)
