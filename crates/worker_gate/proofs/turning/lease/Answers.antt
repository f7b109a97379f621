use Rattle.std.proofs.Common.{◌∙◌, subst, sym, take}
use Rattle.std.specs.Prelude.{is_some}
use Rattle.ruled_lock.specs.Pass.{charter_of, mine_of, seen_of, taken_of, worker_of}
use Rattle.lease_book.specs.Book.{state_at}
use Rattle.worker_gate.specs.code.Asking.{AsksOwn}
use Rattle.worker_gate.proofs.AskingLemmas.{asks_no_turn, lease_asks}
use Rattle.worker_gate.proofs.InputsLemmas.{inputs_turn, leases_so}
use Rattle.worker_gate.proofs.TellingLemmas.{told_seen}
use Rattle.worker_gate.proofs.TurningLemmas.{adds_there, charter_kept, lease_adds, lease_turn, opened_kept}
use Rattle.worker_gate.proofs.turning.lease.Goals as goal

pub give-requires-clause-charter : goal.give-requires-clause-charter
give-requires-clause-charter g c =
    let y = c.take-yard.result in
    let z = c.lease_told-leased.new.yard in
    let e = c.lease_told-leased.ensures in
    charter_kept _ y.ordered.value z.ordered.value (take y.opened y.book.history.events) (take z.opened z.book.history.events) (g.H.Host.marked y.host) (g.H.Host.marked z.host) (is_some (g.H.Host.told y.host)) (is_some (g.H.Host.told z.host)) y.faults z.faults y.misses z.misses (c.take-yard.ensures.same.charter ∙ c.take-yard.ensures.charter) e.same.ordered
    (opened_kept c.worker.result y.opened z.opened y.book.history.events z.book.history.events y.begun e.same.opened (lease_adds y.ordered.value.plan (state_at y.book) c.worker.result y.book.history.events z.book.history.events (g.H.Host.told y.host) (g.H.Host.counts y.host) (g.H.Host.counts z.host) c.lease_told-leased.result e.leased))
    e.same.marked e.same.tells e.same.faults e.same.misses

pub give-requires-clause-journal : goal.give-requires-clause-journal
give-requires-clause-journal g c =
    let y = c.take-yard.result in
    let z = c.lease_told-leased.new.yard in
    adds_there (worker_of c.take-yard.new.pass) c.worker.result (taken_of c.take-yard.new.pass) y.book.history.events z.book.history.events c.worker.ensures.number c.take-yard.ensures.taken
    (lease_adds y.ordered.value.plan (state_at y.book) c.worker.result y.book.history.events z.book.history.events (g.H.Host.told y.host) (g.H.Host.counts y.host) (g.H.Host.counts z.host) c.lease_told-leased.result c.lease_told-leased.ensures.leased)

pub returns-clause-leased : goal.returns-clause-leased
returns-clause-leased g c =
    let y = c.take-yard.result in
    let z = c.lease_told-leased.new.yard in
    let old = c.args.pass.now in
    let mid = c.take-yard.new.pass in
    let new = c.give.new.pass in
    lease_turn c.own_entries_tell_open_tasks.ensures.entries c.own_entries_tell_open_tasks.ensures.decides y.book
    (record { ordered = y.ordered.value; opened = take y.opened y.book.history.events; marked = g.H.Host.marked y.host; tells = is_some (g.H.Host.told y.host); faults = y.faults; misses = y.misses }) (charter_of old) (worker_of old) c.worker.result (taken_of mid) z.book.history.events (mine_of old) (mine_of mid) (mine_of new) (seen_of new) (g.H.Host.told y.host) (g.H.Host.counts y.host) (g.H.Host.counts z.host) c.lease_told-leased.result
    y.same_plan y.same_order c.take-yard.ensures.charter (c.worker.ensures.number ∙ c.take-yard.ensures.same.worker) c.take-yard.ensures.taken c.take-yard.ensures.lists.1 c.take-yard.ensures.mine c.requires.none_open c.give.ensures.grown c.give.ensures.seen c.lease_told-leased.ensures.leased

pub returns-clause-inputs : goal.returns-clause-inputs
returns-clause-inputs g c =
    let y = c.take-yard.result in
    let z = c.lease_told-leased.new.yard in
    let old = c.args.pass.now in
    let mid = c.take-yard.new.pass in
    inputs_turn g.T.Tool.apply (record { ordered = y.ordered.value; opened = take y.opened y.book.history.events; marked = g.H.Host.marked y.host; tells = is_some (g.H.Host.told y.host); faults = y.faults; misses = y.misses }) (charter_of old) c.worker.result (taken_of mid) y.book.history.events z.book.history.events (mine_of old) (mine_of mid) (mine_of c.give.new.pass)
    c.take-yard.ensures.charter c.take-yard.ensures.taken c.take-yard.ensures.lists.1
    (lease_adds y.ordered.value.plan (state_at y.book) c.worker.result y.book.history.events z.book.history.events (g.H.Host.told y.host) (g.H.Host.counts y.host) (g.H.Host.counts z.host) c.lease_told-leased.result c.lease_told-leased.ensures.leased)
    c.give.ensures.grown
    (leases_so g.T.Tool.apply y.ordered.value.plan (state_at y.book) c.worker.result y.book.history.events z.book.history.events (g.H.Host.told y.host) (g.H.Host.counts y.host) (g.H.Host.counts z.host) c.lease_told-leased.result c.lease_told-leased.ensures.leased)

pub returns-clause-asked : goal.returns-clause-asked
returns-clause-asked g c =
    let y = c.take-yard.result in
    let z = c.lease_told-leased.new.yard in
    let mid = c.take-yard.new.pass in
    let xs = g.G.Gate.asked c.args.gate.now in
    subst (AsksOwn (mine_of c.args.pass.now) (mine_of c.give.new.pass) xs) (sym c.lease_told-leased.ensures.asked)
    (asks_no_turn (taken_of mid) y.book.history.events z.book.history.events (mine_of c.args.pass.now) (mine_of mid) (mine_of c.give.new.pass) xs c.take-yard.ensures.taken c.take-yard.ensures.lists.1 c.give.ensures.grown
    (lease_asks y.ordered.value.plan (state_at y.book) c.worker.result y.book.history.events z.book.history.events (g.H.Host.told y.host) (g.H.Host.counts y.host) (g.H.Host.counts z.host) c.lease_told-leased.result c.lease_told-leased.ensures.leased))

pub returns-clause-told : goal.returns-clause-told
returns-clause-told g c =
    let y = c.take-yard.result in
    let z = c.lease_told-leased.new.yard in
    let old = c.args.pass.now in
    told_seen (worker_of old) c.worker.result (seen_of old) y.book.history.events z.book.history.events (seen_of c.give.new.pass) (mine_of old) (g.G.Gate.told c.args.gate.now) (g.G.Gate.told c.lease_told-leased.new.gate) (c.worker.ensures.number ∙ c.take-yard.ensures.same.worker) c.take-yard.ensures.seen old.own c.take-yard.ensures.mine c.give.ensures.seen c.lease_told-leased.ensures.told
