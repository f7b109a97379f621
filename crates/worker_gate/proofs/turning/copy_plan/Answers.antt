use Rattle.std.proofs.Common.{subst, take}
use Rattle.std.specs.Prelude.{IfSome, Option, is_some}
use Rattle.ruled_lock.specs.Pass.{charter_of, mine_of, seen_of, worker_of}
use Rattle.site_yard.specs.declared.chronicle.Charter.{Charter}
use Rattle.worker_gate.specs.code.Turning.{NoneOpenFor}
use Rattle.worker_gate.proofs.TellingLemmas.{told_still}
use Rattle.worker_gate.proofs.TurningLemmas.{none_by_seen, plan_copied}
use Rattle.worker_gate.proofs.turning.copy_plan.Goals as goal

pub returns-clause-none_open : goal.returns-clause-none_open
returns-clause-none_open g c =
    let y = c.take-yard.result in
    let old = c.args.pass.now in
    let there : Charter = record { ordered = y.ordered.value; opened = take y.opened y.book.history.events; marked = g.H.Host.marked y.host; tells = is_some (g.H.Host.told y.host); faults = y.faults; misses = y.misses } in
    none_by_seen c.own_entries_tell_open_tasks.ensures.entries c.own_entries_tell_open_tasks.ensures.decides y.book there (worker_of old) (seen_of old) (mine_of old) y.same_plan y.same_order c.take-yard.ensures.seen old.own
    (subst (λ (k : Option Charter). IfSome k (λ d. NoneOpenFor d (worker_of old) (seen_of old))) c.take-yard.ensures.charter c.requires.none_open)

pub returns-clause-plan : goal.returns-clause-plan
returns-clause-plan g c =
    let y = c.take-yard.result in
    plan_copied (charter_of c.args.pass.now) (record { ordered = y.ordered.value; opened = take y.opened y.book.history.events; marked = g.H.Host.marked y.host; tells = is_some (g.H.Host.told y.host); faults = y.faults; misses = y.misses }) c.plan.result.now c.copy-plan.result c.take-yard.ensures.charter c.copy-plan.ensures c.plan.ensures

pub returns-clause-told : goal.returns-clause-told
returns-clause-told g c =
    let y = c.take-yard.result in
    let old = c.args.pass.now in
    λ xs. told_still (worker_of old) (seen_of old) y.book.history.events (seen_of c.give.new.pass) (mine_of old) xs c.take-yard.ensures.seen old.own c.take-yard.ensures.mine c.give.ensures.seen
