use Rattle.std.proofs.Common.{◌≡◌, ◌++◌, ◌∙◌, length, map, get_or, take, drop, refl, sym, ap, subst, arith}
use Rattle.std.specs.Prelude.{Some, is_some}
use Rattle.worker_gate.specs.code.Hands.{AreReady, member_of}
use Rattle.worker_gate.specs.code.Many.{CanAllWork, HaveAllAsked, HaveAllWorked}
use Rattle.worker_gate.specs.code.Runs.{HaveAllRun}
use Rattle.worker_gate.specs.code.Telling.{HaveAllTold}
use Rattle.worker_gate.proofs.ManyLemmas.{all_ready, can_all, charter_back, charter_with, dealt_as, dealt_many, many_asked, many_counted, many_done, many_inputs, many_run, many_told, no_inputs, none_asked, none_counted, none_run, none_told}
use Rattle.worker_gate.proofs.SmallLemmas.{lent}
use Rattle.worker_gate.proofs.TurningLemmas.{plan_copied}
use Rattle.worker_gate.proofs.many.run_many.Given as given
use Rattle.worker_gate.proofs.many.run_many.Goals as goal

pub returns-in_default-clause-tools : goal.returns-in_default-clause-tools
returns-in_default-clause-tools g c = none_counted c.args.yard.book.history.events (map (λ m. g.T.Tool.faults m.tool) c.args.crew.items) c.requires.empty

pub returns-in-Err-clause-tools : goal.returns-in-Err-clause-tools
returns-in-Err-clause-tools g c = none_counted c.in-Err.field-0.value.book.history.events (map (λ m. g.T.Tool.faults m.tool) c.args.crew.items) (ap (λ y. y.book.history.events) c.in-Err.ensures.refused ∙ c.requires.empty)

pub work_all-requires-after_bounds : goal.work_all-requires-after_bounds
work_all-requires-after_bounds g c κs within =
    let y = c.args.yard in
    let there = charter_with y.ordered.value (take y.opened y.book.history.events) (g.H.Host.marked y.host) (is_some (g.H.Host.told y.host)) y.faults y.misses in
    let first = c.in-Ok-new.first in
    let p = c.in-Ok-new.ensures.pass in
    let hs = c.deal.new.hands.items in
    let n = length c.args.crew.items in
    let many = dealt_many member_of hs c.args.crew.items c.deal.ensures.members in
    let plan = plan_copied (Some there) there c.plan.result.now c.copy-plan.result refl c.copy-plan.ensures c.plan.ensures in
    subst (CanAllWork c.in-Ok-new.lock c.copy-plan.result) (sym c.as_mut_slice.ensures.value)
    (can_all c.in-Ok-new.lock c.copy-plan.result there n hs (omega (arith, many, c.requires.members.1)) plan (dealt_as c.in-Ok-new.lock there n first hs p.charter_is p.seen_is c.deal.ensures.dealt))

pub gather-pass-requires-clause-hands : goal.gather-pass-requires-clause-hands
gather-pass-requires-clause-hands g c =
    let y = c.args.yard in
    let there = charter_with y.ordered.value (take y.opened y.book.history.events) (g.H.Host.marked y.host) (is_some (g.H.Host.told y.host)) y.faults y.misses in
    let first = c.in-Ok-new.first in
    let lock = c.in-Ok-new.lock in
    let p = c.in-Ok-new.ensures.pass in
    let hs = c.deal.new.hands.items in
    let news = c.work_all.new.hands in
    let n = length c.args.crew.items in
    let many = dealt_many member_of hs c.args.crew.items c.deal.ensures.members in
    let same = c.work_all.ensures.length ∙ ap length c.as_mut_slice.ensures.value in
    subst (AreReady lock) (lent c.deal.new.hands.len news hs (c.work_all.ensures.length ∙ c.as_mut_slice.ensures.len))
    (all_ready g.T.Tool.apply lock there n (λ m. g.T.Tool.faults m.tool) hs news many same (dealt_as lock there n first hs p.charter_is p.seen_is c.deal.ensures.dealt)
    (subst (λ l. HaveAllWorked g.T.Tool.apply lock (λ m. g.T.Tool.faults m.tool) l news) c.as_mut_slice.ensures.value c.work_all.ensures.worked))

pub gather-pass-requires-clause-room : goal.gather-pass-requires-clause-room
gather-pass-requires-clause-room g c =
    let hs = c.deal.new.hands.items in
    let news = c.work_all.new.hands in
    let whole = ap length (lent c.deal.new.hands.len news hs (c.work_all.ensures.length ∙ c.as_mut_slice.ensures.len)) in
    let same = c.work_all.ensures.length ∙ ap length c.as_mut_slice.ensures.value in
    let many = dealt_many member_of hs c.args.crew.items c.deal.ensures.members in
    omega (arith, whole, same, many, c.deal.ensures.crew_room)

-- the charter of the yard that comes back
back : (g : given.Over) (c : goal.After-close g) → charter_with c.close.result.ordered.value (take c.close.result.opened c.close.result.book.history.events) (g.H.Host.marked c.close.result.host) (is_some (g.H.Host.told c.close.result.host)) c.close.result.faults c.close.result.misses ≡ charter_with c.args.yard.ordered.value (take c.args.yard.opened c.args.yard.book.history.events) (g.H.Host.marked c.args.yard.host) (is_some (g.H.Host.told c.args.yard.host)) c.args.yard.faults c.args.yard.misses
back g c =
    let y = c.args.yard in
    let z = c.close.result in
    let there = charter_with y.ordered.value (take y.opened y.book.history.events) (g.H.Host.marked y.host) (is_some (g.H.Host.told y.host)) y.faults y.misses in
    let here = charter_with z.ordered.value (take z.opened z.book.history.events) (g.H.Host.marked z.host) (is_some (g.H.Host.told z.host)) z.faults z.misses in
    let first = c.in-Ok-new.first in
    let lock = c.in-Ok-new.lock in
    let p = c.in-Ok-new.ensures.pass in
    let hs = c.deal.new.hands.items in
    let news = c.work_all.new.hands in
    let all = take c.deal.new.hands.len (news ++ drop (length news) hs) in
    let n = length c.args.crew.items in
    let many = dealt_many member_of hs c.args.crew.items c.deal.ensures.members in
    charter_back g.T.Tool.apply lock there here n (λ m. g.T.Tool.faults m.tool) hs all c.gather-pass.result (omega (arith, many, c.requires.members.0))
    (dealt_as lock there n first hs p.charter_is p.seen_is c.deal.ensures.dealt)
    (subst (HaveAllWorked g.T.Tool.apply lock (λ m. g.T.Tool.faults m.tool) hs) (lent c.deal.new.hands.len news hs (c.work_all.ensures.length ∙ c.as_mut_slice.ensures.len)) (subst (λ l. HaveAllWorked g.T.Tool.apply lock (λ m. g.T.Tool.faults m.tool) l news) c.as_mut_slice.ensures.value c.work_all.ensures.worked))
    c.gather-pass.ensures.gathered c.close.ensures.charter

pub returns-in-Ok-new-clause-ordered : goal.returns-in-Ok-new-clause-ordered
returns-in-Ok-new-clause-ordered g c = ap (λ x. x.ordered) (back g c)

pub returns-in-Ok-new-clause-opened : goal.returns-in-Ok-new-clause-opened
returns-in-Ok-new-clause-opened g c = ap (λ x. x.opened) (back g c)

pub returns-in-Ok-new-clause-marked : goal.returns-in-Ok-new-clause-marked
returns-in-Ok-new-clause-marked g c = ap (λ x. x.marked) (back g c)

pub returns-in-Ok-new-clause-faults : goal.returns-in-Ok-new-clause-faults
returns-in-Ok-new-clause-faults g c = ap (λ x. x.faults) (back g c)

pub returns-in-Ok-new-clause-misses : goal.returns-in-Ok-new-clause-misses
returns-in-Ok-new-clause-misses g c = ap (λ x. x.misses) (back g c)

pub returns-in-Ok-new-clause-tells : goal.returns-in-Ok-new-clause-tells
returns-in-Ok-new-clause-tells g c = ap (λ x. x.tells) (back g c)

pub returns-in-Ok-new-clause-members : goal.returns-in-Ok-new-clause-members
returns-in-Ok-new-clause-members g c =
    let hs = c.deal.new.hands.items in
    let news = c.work_all.new.hands in
    let all = take c.deal.new.hands.len (news ++ drop (length news) hs) in
    let whole = ap length (lent c.deal.new.hands.len news hs (c.work_all.ensures.length ∙ c.as_mut_slice.ensures.len)) in
    let same = c.work_all.ensures.length ∙ ap length c.as_mut_slice.ensures.value in
    let many = dealt_many member_of hs c.args.crew.items c.deal.ensures.members in
    let came = dealt_many member_of all c.gather-pass.new.crew.items (sym c.gather-pass.ensures.members) in
    omega (arith, whole, same, many, came)

pub returns-in-Ok-new-clause-works : goal.returns-in-Ok-new-clause-works
returns-in-Ok-new-clause-works g c =
    let y = c.args.yard in
    let z = c.close.result in
    let there = charter_with y.ordered.value (take y.opened y.book.history.events) (g.H.Host.marked y.host) (is_some (g.H.Host.told y.host)) y.faults y.misses in
    let first = c.in-Ok-new.first in
    let lock = c.in-Ok-new.lock in
    let p = c.in-Ok-new.ensures.pass in
    let hs = c.deal.new.hands.items in
    let news = c.work_all.new.hands in
    let all = take c.deal.new.hands.len (news ++ drop (length news) hs) in
    let n = length c.args.crew.items in
    let many = dealt_many member_of hs c.args.crew.items c.deal.ensures.members in
    let whole = lent c.deal.new.hands.len news hs (c.work_all.ensures.length ∙ c.as_mut_slice.ensures.len) in
    let same = sym (ap length whole) ∙ c.work_all.ensures.length ∙ ap length c.as_mut_slice.ensures.value in
    many_done c.own_entries_tell_open_tasks.ensures.entries c.own_entries_tell_open_tasks.ensures.decides c.over_records_end.ensures.complete c.over_records_end.ensures.failing g.T.Tool.apply
    lock there z.book n (λ m. g.T.Tool.faults m.tool) hs all c.gather-pass.result (z.same_plan ∙ ap (λ x. x.ordered.plan) (back g c)) (z.same_order ∙ ap (λ x. x.ordered.tasks.items) (back g c)) many (omega (arith, many, c.requires.members.0)) same
    (dealt_as lock there n first hs p.charter_is p.seen_is c.deal.ensures.dealt)
    (subst (HaveAllWorked g.T.Tool.apply lock (λ m. g.T.Tool.faults m.tool) hs) whole (subst (λ l. HaveAllWorked g.T.Tool.apply lock (λ m. g.T.Tool.faults m.tool) l news) c.as_mut_slice.ensures.value c.work_all.ensures.worked))
    c.gather-pass.ensures.gathered c.close.ensures.seen c.close.ensures.items c.close.ensures.others

pub returns-in-Ok-new-clause-tools : goal.returns-in-Ok-new-clause-tools
returns-in-Ok-new-clause-tools g c =
    let y = c.args.yard in
    let z = c.close.result in
    let there = charter_with y.ordered.value (take y.opened y.book.history.events) (g.H.Host.marked y.host) (is_some (g.H.Host.told y.host)) y.faults y.misses in
    let first = c.in-Ok-new.first in
    let lock = c.in-Ok-new.lock in
    let p = c.in-Ok-new.ensures.pass in
    let hs = c.deal.new.hands.items in
    let news = c.work_all.new.hands in
    let all = take c.deal.new.hands.len (news ++ drop (length news) hs) in
    let n = length c.args.crew.items in
    let whole = lent c.deal.new.hands.len news hs (c.work_all.ensures.length ∙ c.as_mut_slice.ensures.len) in
    let same = sym (ap length whole) ∙ c.work_all.ensures.length ∙ ap length c.as_mut_slice.ensures.value in
    many_counted g.T.Tool.apply lock there n (λ m. g.T.Tool.faults m.tool) hs all c.gather-pass.result z.book.history.events c.args.crew.items c.gather-pass.new.crew.items c.deal.ensures.members c.gather-pass.ensures.members same
    (dealt_as lock there n first hs p.charter_is p.seen_is c.deal.ensures.dealt)
    (subst (HaveAllWorked g.T.Tool.apply lock (λ m. g.T.Tool.faults m.tool) hs) whole (subst (λ l. HaveAllWorked g.T.Tool.apply lock (λ m. g.T.Tool.faults m.tool) l news) c.as_mut_slice.ensures.value c.work_all.ensures.worked))
    c.gather-pass.ensures.gathered c.close.ensures.items

pub returns-in_default-clause-inputs : goal.returns-in_default-clause-inputs
returns-in_default-clause-inputs g c = no_inputs g.T.Tool.apply c.args.yard.ordered.value.plan c.args.yard.book.history.events c.requires.empty

pub returns-in-Err-clause-inputs : goal.returns-in-Err-clause-inputs
returns-in-Err-clause-inputs g c = no_inputs g.T.Tool.apply c.args.yard.ordered.value.plan c.in-Err.field-0.value.book.history.events (ap (λ y. y.book.history.events) c.in-Err.ensures.refused ∙ c.requires.empty)

pub returns-in-Ok-new-clause-inputs : goal.returns-in-Ok-new-clause-inputs
returns-in-Ok-new-clause-inputs g c =
    let y = c.args.yard in
    let z = c.close.result in
    let there = charter_with y.ordered.value (take y.opened y.book.history.events) (g.H.Host.marked y.host) (is_some (g.H.Host.told y.host)) y.faults y.misses in
    let first = c.in-Ok-new.first in
    let lock = c.in-Ok-new.lock in
    let p = c.in-Ok-new.ensures.pass in
    let hs = c.deal.new.hands.items in
    let news = c.work_all.new.hands in
    let all = take c.deal.new.hands.len (news ++ drop (length news) hs) in
    let n = length c.args.crew.items in
    let many = dealt_many member_of hs c.args.crew.items c.deal.ensures.members in
    let whole = lent c.deal.new.hands.len news hs (c.work_all.ensures.length ∙ c.as_mut_slice.ensures.len) in
    let same = sym (ap length whole) ∙ c.work_all.ensures.length ∙ ap length c.as_mut_slice.ensures.value in
    many_inputs g.T.Tool.apply lock there n (λ m. g.T.Tool.faults m.tool) hs all c.gather-pass.result z.book.history.events many same
    (dealt_as lock there n first hs p.charter_is p.seen_is c.deal.ensures.dealt)
    (subst (HaveAllWorked g.T.Tool.apply lock (λ m. g.T.Tool.faults m.tool) hs) whole (subst (λ l. HaveAllWorked g.T.Tool.apply lock (λ m. g.T.Tool.faults m.tool) l news) c.as_mut_slice.ensures.value c.work_all.ensures.worked))
    c.gather-pass.ensures.gathered c.close.ensures.items (returns-in-Ok-new-clause-works g c).below

pub returns-in_default-clause-gates : goal.returns-in_default-clause-gates
returns-in_default-clause-gates g c = none_asked c.args.yard.book.history.events (map (λ m. g.G.Gate.asked m.gate) c.args.crew.items) c.requires.empty

pub returns-in-Err-clause-gates : goal.returns-in-Err-clause-gates
returns-in-Err-clause-gates g c = none_asked c.in-Err.field-0.value.book.history.events (map (λ m. g.G.Gate.asked m.gate) c.args.crew.items) (ap (λ y. y.book.history.events) c.in-Err.ensures.refused ∙ c.requires.empty)

pub returns-in-Ok-new-clause-gates : goal.returns-in-Ok-new-clause-gates
returns-in-Ok-new-clause-gates g c =
    let y = c.args.yard in
    let z = c.close.result in
    let there = charter_with y.ordered.value (take y.opened y.book.history.events) (g.H.Host.marked y.host) (is_some (g.H.Host.told y.host)) y.faults y.misses in
    let first = c.in-Ok-new.first in
    let lock = c.in-Ok-new.lock in
    let p = c.in-Ok-new.ensures.pass in
    let hs = c.deal.new.hands.items in
    let news = c.work_all.new.hands in
    let all = take c.deal.new.hands.len (news ++ drop (length news) hs) in
    let n = length c.args.crew.items in
    let whole = lent c.deal.new.hands.len news hs (c.work_all.ensures.length ∙ c.as_mut_slice.ensures.len) in
    let same = sym (ap length whole) ∙ c.work_all.ensures.length ∙ ap length c.as_mut_slice.ensures.value in
    many_asked g.T.Tool.apply lock there n (λ m. g.T.Tool.faults m.tool) (λ m. g.G.Gate.asked m.gate) hs all c.gather-pass.result z.book.history.events c.args.crew.items c.gather-pass.new.crew.items c.deal.ensures.members c.gather-pass.ensures.members same
    (dealt_as lock there n first hs p.charter_is p.seen_is c.deal.ensures.dealt)
    (subst (HaveAllWorked g.T.Tool.apply lock (λ m. g.T.Tool.faults m.tool) hs) whole (subst (λ l. HaveAllWorked g.T.Tool.apply lock (λ m. g.T.Tool.faults m.tool) l news) c.as_mut_slice.ensures.value c.work_all.ensures.worked))
    (subst (HaveAllAsked (λ m. g.G.Gate.asked m.gate) hs) whole (subst (λ l. HaveAllAsked (λ m. g.G.Gate.asked m.gate) l news) c.as_mut_slice.ensures.value c.work_all.ensures.asked))
    c.gather-pass.ensures.gathered c.close.ensures.items

pub returns-in_default-clause-told : goal.returns-in_default-clause-told
returns-in_default-clause-told g c = none_told c.args.yard.book.history.events (map (λ m. g.G.Gate.told m.gate) c.args.crew.items) c.requires.empty

pub returns-in-Err-clause-told : goal.returns-in-Err-clause-told
returns-in-Err-clause-told g c = none_told c.in-Err.field-0.value.book.history.events (map (λ m. g.G.Gate.told m.gate) c.args.crew.items) (ap (λ y. y.book.history.events) c.in-Err.ensures.refused ∙ c.requires.empty)

pub returns-in-Ok-new-clause-told : goal.returns-in-Ok-new-clause-told
returns-in-Ok-new-clause-told g c =
    let y = c.args.yard in
    let z = c.close.result in
    let there = charter_with y.ordered.value (take y.opened y.book.history.events) (g.H.Host.marked y.host) (is_some (g.H.Host.told y.host)) y.faults y.misses in
    let first = c.in-Ok-new.first in
    let lock = c.in-Ok-new.lock in
    let p = c.in-Ok-new.ensures.pass in
    let hs = c.deal.new.hands.items in
    let news = c.work_all.new.hands in
    let all = take c.deal.new.hands.len (news ++ drop (length news) hs) in
    let n = length c.args.crew.items in
    let whole = lent c.deal.new.hands.len news hs (c.work_all.ensures.length ∙ c.as_mut_slice.ensures.len) in
    let same = sym (ap length whole) ∙ c.work_all.ensures.length ∙ ap length c.as_mut_slice.ensures.value in
    many_told g.T.Tool.apply lock there n (λ m. g.T.Tool.faults m.tool) (λ m. g.G.Gate.told m.gate) hs all c.gather-pass.result z.book.history.events c.args.crew.items c.gather-pass.new.crew.items c.deal.ensures.members c.gather-pass.ensures.members same
    (dealt_as lock there n first hs p.charter_is p.seen_is c.deal.ensures.dealt)
    (subst (HaveAllWorked g.T.Tool.apply lock (λ m. g.T.Tool.faults m.tool) hs) whole (subst (λ l. HaveAllWorked g.T.Tool.apply lock (λ m. g.T.Tool.faults m.tool) l news) c.as_mut_slice.ensures.value c.work_all.ensures.worked))
    (subst (HaveAllTold (λ m. g.G.Gate.told m.gate) hs) whole (subst (λ l. HaveAllTold (λ m. g.G.Gate.told m.gate) l news) c.as_mut_slice.ensures.value c.work_all.ensures.told))
    (λ k d l. (get_or all k d).pass.own) c.gather-pass.ensures.gathered c.close.ensures.seen c.close.ensures.items

pub returns-in_default-clause-runs : goal.returns-in_default-clause-runs
returns-in_default-clause-runs g c = none_run c.args.yard.ordered.value.plan c.args.yard.book.history.events (map (λ m. g.T.Tool.runs m.tool) c.args.crew.items)

pub returns-in-Err-clause-runs : goal.returns-in-Err-clause-runs
returns-in-Err-clause-runs g c = none_run c.args.yard.ordered.value.plan c.in-Err.field-0.value.book.history.events (map (λ m. g.T.Tool.runs m.tool) c.args.crew.items)

pub returns-in-Ok-new-clause-runs : goal.returns-in-Ok-new-clause-runs
returns-in-Ok-new-clause-runs g c =
    let y = c.args.yard in
    let z = c.close.result in
    let there = charter_with y.ordered.value (take y.opened y.book.history.events) (g.H.Host.marked y.host) (is_some (g.H.Host.told y.host)) y.faults y.misses in
    let first = c.in-Ok-new.first in
    let lock = c.in-Ok-new.lock in
    let p = c.in-Ok-new.ensures.pass in
    let hs = c.deal.new.hands.items in
    let news = c.work_all.new.hands in
    let all = take c.deal.new.hands.len (news ++ drop (length news) hs) in
    let n = length c.args.crew.items in
    let whole = lent c.deal.new.hands.len news hs (c.work_all.ensures.length ∙ c.as_mut_slice.ensures.len) in
    let same = sym (ap length whole) ∙ c.work_all.ensures.length ∙ ap length c.as_mut_slice.ensures.value in
    many_run g.T.Tool.apply lock there n (λ m. g.T.Tool.faults m.tool) (λ m. g.T.Tool.runs m.tool) hs all c.gather-pass.result z.book.history.events c.args.crew.items c.gather-pass.new.crew.items c.deal.ensures.members c.gather-pass.ensures.members same
    (dealt_as lock there n first hs p.charter_is p.seen_is c.deal.ensures.dealt)
    (subst (HaveAllWorked g.T.Tool.apply lock (λ m. g.T.Tool.faults m.tool) hs) whole (subst (λ l. HaveAllWorked g.T.Tool.apply lock (λ m. g.T.Tool.faults m.tool) l news) c.as_mut_slice.ensures.value c.work_all.ensures.worked))
    (subst (HaveAllRun (λ m. g.T.Tool.runs m.tool) hs) whole (subst (λ l. HaveAllRun (λ m. g.T.Tool.runs m.tool) l news) c.as_mut_slice.ensures.value c.work_all.ensures.runs))
    c.gather-pass.ensures.gathered c.close.ensures.items
