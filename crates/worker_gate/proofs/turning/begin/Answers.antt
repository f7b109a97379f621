use Rattle.std.proofs.Common.{◌∙◌, map, refl, subst, sym, take}
use Rattle.std.specs.Prelude.{is_some}
use Rattle.lease_book.specs.Book.{state_at}
use Rattle.ruled_lock.specs.Pass.{charter_of, mine_of, seen_of, taken_of, worker_of}
use Rattle.worker_gate.specs.code.Asking.{AsksOwn}
use Rattle.worker_gate.proofs.AskingLemmas.{asks_no_turn, lend_asks}
use Rattle.worker_gate.proofs.InputsLemmas.{inputs_turn, lends_so}
use Rattle.worker_gate.proofs.StateLemmas.{open_loan}
use Rattle.worker_gate.proofs.TellingLemmas.{told_seen}
use Rattle.worker_gate.proofs.TurningLemmas.{adds_there, charter_kept, held_turn, lend_adds, none_turn, open_there, opened_kept, same_turn}
use Rattle.worker_gate.proofs.WorkLemmas.{consistent_at}
use Rattle.worker_gate.proofs.turning.begin.Goals as goal

pub lend_told-lent-requires : goal.lend_told-lent-requires
lend_told-lent-requires g c =
    let old = c.args.pass.now in
    record { «open» = open_there c.own_entries_tell_open_tasks.ensures.entries c.own_entries_tell_open_tasks.ensures.decides c.take-yard.result.book (worker_of old) c.worker.result c.args.task.0 (mine_of old) (c.worker.ensures.number ∙ c.take-yard.ensures.same.worker) c.take-yard.ensures.mine c.requires.open }

pub give-requires-clause-charter : goal.give-requires-clause-charter
give-requires-clause-charter g c =
    let y = c.take-yard.result in
    let z = c.lend_told-lent.new.yard in
    let e = c.lend_told-lent.ensures in
    charter_kept _ y.ordered.value z.ordered.value (take y.opened y.book.history.events) (take z.opened z.book.history.events) (g.H.Host.marked y.host) (g.H.Host.marked z.host) (is_some (g.H.Host.told y.host)) (is_some (g.H.Host.told z.host)) y.faults z.faults y.misses z.misses (c.take-yard.ensures.same.charter ∙ c.take-yard.ensures.charter) e.same.ordered
    (opened_kept c.worker.result y.opened z.opened y.book.history.events z.book.history.events y.begun e.same.opened (lend_adds _ c.worker.result c.args.task.0 y.book.history.events z.book.history.events (g.H.Host.told y.host) (g.H.Host.counts y.host) (g.H.Host.counts z.host) c.lend_told-lent.result e.history e.none))
    e.same.marked e.same.tells e.same.faults e.same.misses

pub give-requires-clause-journal : goal.give-requires-clause-journal
give-requires-clause-journal g c =
    let y = c.take-yard.result in
    let z = c.lend_told-lent.new.yard in
    let e = c.lend_told-lent.ensures in
    adds_there (worker_of c.take-yard.new.pass) c.worker.result (taken_of c.take-yard.new.pass) y.book.history.events z.book.history.events c.worker.ensures.number c.take-yard.ensures.taken
    (lend_adds _ c.worker.result c.args.task.0 y.book.history.events z.book.history.events (g.H.Host.told y.host) (g.H.Host.counts y.host) (g.H.Host.counts z.host) c.lend_told-lent.result e.history e.none)

pub returns-clause-held : goal.returns-clause-held
returns-clause-held g c =
    let y = c.take-yard.result in
    let old = c.args.pass.now in
    let open_ = open_there c.own_entries_tell_open_tasks.ensures.entries c.own_entries_tell_open_tasks.ensures.decides y.book (worker_of old) c.worker.result c.args.task.0 (mine_of old) (c.worker.ensures.number ∙ c.take-yard.ensures.same.worker) c.take-yard.ensures.mine c.requires.open in
    held_turn g.T.Tool.apply y.book (record { ordered = y.ordered.value; opened = take y.opened y.book.history.events; marked = g.H.Host.marked y.host; tells = is_some (g.H.Host.told y.host); faults = y.faults; misses = y.misses }) (charter_of old) (g.H.Host.told y.host) c.args.task.0 (λ l. map g.H.Reading.ReadPart.state l.readings.items) (λ l. map g.H.Draft.WritePart.state l.drafts.items) c.lend_told-lent.result
    y.same_plan c.take-yard.ensures.charter refl (open_loan y.book.plan y.ordered.value.plan (state_at y.book) c.args.task.0 y.same_plan (consistent_at y.book).sound open_.runs) c.lend_told-lent.ensures.lent

pub returns-clause-mine : goal.returns-clause-mine
returns-clause-mine g c =
    let y = c.take-yard.result in
    let z = c.lend_told-lent.new.yard in
    let mid = c.take-yard.new.pass in
    same_turn (taken_of mid) y.book.history.events z.book.history.events (mine_of c.args.pass.now) (mine_of mid) (mine_of c.give.new.pass) c.lend_told-lent.result c.take-yard.ensures.taken c.take-yard.ensures.lists.1 c.give.ensures.grown c.lend_told-lent.ensures.history

pub returns-clause-none : goal.returns-clause-none
returns-clause-none g c =
    let y = c.take-yard.result in
    let z = c.lend_told-lent.new.yard in
    let old = c.args.pass.now in
    let mid = c.take-yard.new.pass in
    none_turn _ (worker_of old) c.worker.result c.args.task.0 (taken_of mid) y.book.history.events z.book.history.events (mine_of old) (mine_of mid) (mine_of c.give.new.pass) (g.H.Host.told y.host) (g.H.Host.counts y.host) (g.H.Host.counts z.host) c.lend_told-lent.result (c.worker.ensures.number ∙ c.take-yard.ensures.same.worker) c.take-yard.ensures.taken c.take-yard.ensures.lists.1 c.give.ensures.grown c.lend_told-lent.ensures.none

pub returns-clause-inputs : goal.returns-clause-inputs
returns-clause-inputs g c =
    let y = c.take-yard.result in
    let z = c.lend_told-lent.new.yard in
    let e = c.lend_told-lent.ensures in
    let old = c.args.pass.now in
    let mid = c.take-yard.new.pass in
    inputs_turn g.T.Tool.apply (record { ordered = y.ordered.value; opened = take y.opened y.book.history.events; marked = g.H.Host.marked y.host; tells = is_some (g.H.Host.told y.host); faults = y.faults; misses = y.misses }) (charter_of old) c.worker.result (taken_of mid) y.book.history.events z.book.history.events (mine_of old) (mine_of mid) (mine_of c.give.new.pass)
    c.take-yard.ensures.charter c.take-yard.ensures.taken c.take-yard.ensures.lists.1
    (lend_adds _ c.worker.result c.args.task.0 y.book.history.events z.book.history.events (g.H.Host.told y.host) (g.H.Host.counts y.host) (g.H.Host.counts z.host) c.lend_told-lent.result e.history e.none)
    c.give.ensures.grown
    (lends_so _ g.T.Tool.apply y.ordered.value.plan c.worker.result c.args.task.0 y.book.history.events z.book.history.events (g.H.Host.told y.host) (g.H.Host.counts y.host) (g.H.Host.counts z.host) c.lend_told-lent.result e.history e.none)

pub returns-clause-asked : goal.returns-clause-asked
returns-clause-asked g c =
    let y = c.take-yard.result in
    let z = c.lend_told-lent.new.yard in
    let e = c.lend_told-lent.ensures in
    let mid = c.take-yard.new.pass in
    let xs = g.G.Gate.asked c.args.gate.now in
    subst (AsksOwn (mine_of c.args.pass.now) (mine_of c.give.new.pass) xs) (sym e.gate)
    (asks_no_turn (taken_of mid) y.book.history.events z.book.history.events (mine_of c.args.pass.now) (mine_of mid) (mine_of c.give.new.pass) xs c.take-yard.ensures.taken c.take-yard.ensures.lists.1 c.give.ensures.grown
    (lend_asks _ c.worker.result c.args.task.0 y.book.history.events z.book.history.events (g.H.Host.told y.host) (g.H.Host.counts y.host) (g.H.Host.counts z.host) c.lend_told-lent.result e.history e.none))

pub returns-clause-told : goal.returns-clause-told
returns-clause-told g c =
    let y = c.take-yard.result in
    let z = c.lend_told-lent.new.yard in
    let old = c.args.pass.now in
    told_seen (worker_of old) c.worker.result (seen_of old) y.book.history.events z.book.history.events (seen_of c.give.new.pass) (mine_of old) (g.G.Gate.told c.args.gate.now) (g.G.Gate.told c.lend_told-lent.new.gate) (c.worker.ensures.number ∙ c.take-yard.ensures.same.worker) c.take-yard.ensures.seen old.own c.take-yard.ensures.mine c.give.ensures.seen c.lend_told-lent.ensures.entered
