use Rattle.std.proofs.Common.{◌∙◌, ◌∷◌, [], map, refl, subst, sym, take}
use Rattle.std.specs.Prelude.{is_some}
use Rattle.ruled_lock.specs.Pass.{charter_of, mine_of, seen_of, taken_of, worker_of}
use Rattle.worker_gate.specs.code.Tending.{failures_in}
use Rattle.worker_gate.specs.code.Asking.{AsksOwn}
use Rattle.worker_gate.proofs.AskingLemmas.{asks_turn, end_asks}
use Rattle.worker_gate.proofs.InputsLemmas.{inputs_turn}
use Rattle.worker_gate.proofs.TendingLemmas.{ends_finishes}
use Rattle.worker_gate.proofs.TellingLemmas.{told_seen}
use Rattle.worker_gate.proofs.TurningLemmas.{adds_there, charter_kept, filled_here, finish_here, finishes_adds, finishes_there, open_there, opened_kept}
use Rattle.worker_gate.proofs.turning.finish.Goals as goal

pub finish_told-requires-clause-open : goal.finish_told-requires-clause-open
finish_told-requires-clause-open g c =
    let old = c.args.pass.now in
    open_there c.own_entries_tell_open_tasks.ensures.entries c.own_entries_tell_open_tasks.ensures.decides c.take-yard.result.book (worker_of old) c.worker.result c.args.task.0 (mine_of old) (c.worker.ensures.number ∙ c.take-yard.ensures.same.worker) c.take-yard.ensures.mine c.requires.open

pub finish_told-requires-clause-can : goal.finish_told-requires-clause-can
finish_told-requires-clause-can g c =
    let y = c.take-yard.result in
    finish_here g.T.Tool.apply (charter_of c.args.pass.now) (record { ordered = y.ordered.value; opened = take y.opened y.book.history.events; marked = g.H.Host.marked y.host; tells = is_some (g.H.Host.told y.host); faults = y.faults; misses = y.misses }) (g.H.Host.told y.host) c.args.task.0 (map g.H.Reading.ReadPart.state c.args.loan.readings.items) (map g.H.Draft.WritePart.state c.args.loan.drafts.items) c.args.filled c.take-yard.ensures.charter refl c.requires.can

pub give-requires-clause-charter : goal.give-requires-clause-charter
give-requires-clause-charter g c =
    let y = c.take-yard.result in
    let z = c.finish_told.new.yard in
    let e = c.finish_told.ensures in
    charter_kept _ y.ordered.value z.ordered.value (take y.opened y.book.history.events) (take z.opened z.book.history.events) (g.H.Host.marked y.host) (g.H.Host.marked z.host) (is_some (g.H.Host.told y.host)) (is_some (g.H.Host.told z.host)) y.faults z.faults y.misses z.misses (c.take-yard.ensures.same.charter ∙ c.take-yard.ensures.charter) e.same.ordered
    (opened_kept c.worker.result y.opened z.opened y.book.history.events z.book.history.events y.begun e.same.opened (finishes_adds c.worker.result c.args.task.0 (failures_in c.args.filled) y.book.history.events z.book.history.events (ends_finishes c.worker.result c.args.task.0 (failures_in c.args.filled) y.book.history.events z.book.history.events c.finish_told.ensures.ends)))
    e.same.marked e.same.tells e.same.faults e.same.misses

pub give-requires-clause-journal : goal.give-requires-clause-journal
give-requires-clause-journal g c =
    let y = c.take-yard.result in
    let z = c.finish_told.new.yard in
    adds_there (worker_of c.take-yard.new.pass) c.worker.result (taken_of c.take-yard.new.pass) y.book.history.events z.book.history.events c.worker.ensures.number c.take-yard.ensures.taken
    (finishes_adds c.worker.result c.args.task.0 (failures_in c.args.filled) y.book.history.events z.book.history.events (ends_finishes c.worker.result c.args.task.0 (failures_in c.args.filled) y.book.history.events z.book.history.events c.finish_told.ensures.ends))

pub returns-clause-finishes : goal.returns-clause-finishes
returns-clause-finishes g c =
    let y = c.take-yard.result in
    let z = c.finish_told.new.yard in
    let old = c.args.pass.now in
    let mid = c.take-yard.new.pass in
    finishes_there (worker_of old) c.worker.result c.args.task.0 (failures_in c.args.filled) (taken_of mid) y.book.history.events z.book.history.events (mine_of old) (mine_of mid) (mine_of c.give.new.pass) (c.worker.ensures.number ∙ c.take-yard.ensures.same.worker) c.take-yard.ensures.taken c.take-yard.ensures.lists.1 c.give.ensures.grown (ends_finishes c.worker.result c.args.task.0 (failures_in c.args.filled) y.book.history.events z.book.history.events c.finish_told.ensures.ends)

pub finish_told-requires-clause-inputs : goal.finish_told-requires-clause-inputs
finish_told-requires-clause-inputs g c =
    let y = c.take-yard.result in
    filled_here g.T.Tool.apply (charter_of c.args.pass.now) (record { ordered = y.ordered.value; opened = take y.opened y.book.history.events; marked = g.H.Host.marked y.host; tells = is_some (g.H.Host.told y.host); faults = y.faults; misses = y.misses }) c.args.task.0 c.args.filled c.take-yard.ensures.charter c.requires.inputs

pub returns-clause-inputs : goal.returns-clause-inputs
returns-clause-inputs g c =
    let y = c.take-yard.result in
    let z = c.finish_told.new.yard in
    let old = c.args.pass.now in
    let mid = c.take-yard.new.pass in
    inputs_turn g.T.Tool.apply (record { ordered = y.ordered.value; opened = take y.opened y.book.history.events; marked = g.H.Host.marked y.host; tells = is_some (g.H.Host.told y.host); faults = y.faults; misses = y.misses }) (charter_of old) c.worker.result (taken_of mid) y.book.history.events z.book.history.events (mine_of old) (mine_of mid) (mine_of c.give.new.pass)
    c.take-yard.ensures.charter c.take-yard.ensures.taken c.take-yard.ensures.lists.1
    (finishes_adds c.worker.result c.args.task.0 (failures_in c.args.filled) y.book.history.events z.book.history.events (ends_finishes c.worker.result c.args.task.0 (failures_in c.args.filled) y.book.history.events z.book.history.events c.finish_told.ensures.ends))
    c.give.ensures.grown c.finish_told.ensures.inputs

pub returns-clause-asked : goal.returns-clause-asked
returns-clause-asked g c =
    let y = c.take-yard.result in
    let z = c.finish_told.new.yard in
    let mid = c.take-yard.new.pass in
    λ ts is. subst (AsksOwn (mine_of c.args.pass.now) (mine_of c.give.new.pass) ts) (sym (c.finish_told.ensures.asked ∙ is))
    (asks_turn (taken_of mid) y.book.history.events z.book.history.events (mine_of c.args.pass.now) (mine_of mid) (mine_of c.give.new.pass) (c.args.task.0 ∷ []) ts c.take-yard.ensures.taken c.take-yard.ensures.lists.1 c.give.ensures.grown
    (end_asks c.worker.result c.args.task.0 (failures_in c.args.filled) y.book.history.events z.book.history.events c.finish_told.ensures.ends))

pub returns-clause-told : goal.returns-clause-told
returns-clause-told g c =
    let y = c.take-yard.result in
    let z = c.finish_told.new.yard in
    let old = c.args.pass.now in
    told_seen (worker_of old) c.worker.result (seen_of old) y.book.history.events z.book.history.events (seen_of c.give.new.pass) (mine_of old) (g.G.Gate.told c.args.gate.now) (g.G.Gate.told c.finish_told.new.gate) (c.worker.ensures.number ∙ c.take-yard.ensures.same.worker) c.take-yard.ensures.seen old.own c.take-yard.ensures.mine c.give.ensures.seen c.finish_told.ensures.told
