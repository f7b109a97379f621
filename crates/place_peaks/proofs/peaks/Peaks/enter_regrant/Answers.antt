use Rattle.std.proofs.Common.{◌≡◌, ◌+◌, ◌∙◌, ℕ, List, Option, [], None, cond, false, length, get_or, refl, sym, ap, subst, arith}
use Rattle.place_peaks.proofs.Offered.{count_tasks_in, few_once}
use Rattle.lease_rules.specs.State.{after}
use Rattle.plan_core.specs.Words.{count_tasks, task_numbers}
use Rattle.run_record.specs.Events.{Regrant}
use Rattle.place_peaks.specs.declared.peaks.Peaks.{Peaks}
use Rattle.place_peaks.specs.Granting.{CanHold}
use Rattle.place_peaks.specs.Places.{is_place}
use Rattle.place_peaks.specs.declared.seating.Seating.{Seating}
use Rattle.place_peaks.specs.Peaks.{IsSeating, left_of, stack_of}
use Rattle.place_peaks.specs.Ready.{AreSmall, WasGrouped}
use Rattle.place_peaks.specs.Renewing.{CanWalk, IsLaid, renewed_values}
use Rattle.storage_simulation.specs.code.Standings.{held_of}
use Rattle.storage_simulation.specs.Standings.{sizes}
use Rattle.place_peaks.proofs.ReadyLemmas.{indexed_with, rising_of, tied_with}
use Rattle.place_peaks.proofs.RenewingLemmas.{begun_room, order_once, renewed_tied, walk_of, wide_of}
use Rattle.place_peaks.proofs.peaks.Peaks.enter_regrant.Goals as goal

pub add_base-requires : goal.add_base-requires
add_base-requires c = λ q home.
    let can = c.requires.can in
    subst (CanHold c.args.self.now.base.items q) (sym c.need-need.ensures)
    (begun_room c.args.plan.now can.state c.args.self.now can.worker c.args.task q c.requires.limits (λ size front place small. c.sums_are_small.ensures c.args.plan.now size front place c.requires.limits small) can.tied can.allowed home)

pub lay-requires-clause-one : goal.lay-requires-clause-one
lay-requires-clause-one c = c.requires.can.tied.behind.rules.one

pub lay-requires-clause-once : goal.lay-requires-clause-once
lay-requires-clause-once c = (order_once c.args.plan.now c.args.self.now c.args.standing.now c.args.task (task_numbers c.args.tasks.now) c.requires.can).0

pub lay-requires-clause-low : goal.lay-requires-clause-low
lay-requires-clause-low c = (order_once c.args.plan.now c.args.self.now c.args.standing.now c.args.task (task_numbers c.args.tasks.now) c.requires.can).1

pub lay-requires-clause-marks : goal.lay-requires-clause-marks
lay-requires-clause-marks c = c.requires.can.tied.behind.marks_long

pub lay-requires-clause-seated : goal.lay-requires-clause-seated
lay-requires-clause-seated c = c.requires.can.tied.behind.seated

pub refill_all-requires-clause-walk : goal.refill_all-requires-clause-walk
refill_all-requires-clause-walk c =
    let b : Peaks = c.args.self.now in
    let t : ℕ = c.args.task in
    subst (λ (x : Peaks). CanWalk c.args.plan.now x.seating.homes.items x.needs.items x.base.items c.args.standing.now (task_numbers c.args.tasks.now)) (sym c.lay.ensures.same)
    (subst (λ (homes : List (Option ℕ)). CanWalk c.args.plan.now homes b.needs.items c.add_base.new.base.items c.args.standing.now (task_numbers c.args.tasks.now)) (sym c.lay.ensures.laid.homes)
    (walk_of c.args.plan.now b c.add_base.new.base.items c.args.standing.now t (task_numbers c.args.tasks.now) c.requires.limits c.requires.can
    (λ q. c.add_base.ensures.each q ∙ ap (λ (n : ℕ). cond (is_place q (get_or b.seating.homes.items t None)) (get_or b.base.items q 0 + n) (get_or b.base.items q 0)) c.need-need.ensures)))

pub refill_all-requires-clause-long : goal.refill_all-requires-clause-long
refill_all-requires-clause-long c = ap (λ (x : Peaks). length x.trees.items) c.lay.ensures.same ∙ c.requires.can.tied.behind.trees_long

pub refill_all-requires-clause-wide : goal.refill_all-requires-clause-wide
refill_all-requires-clause-wide c = λ q l.
    let wide = wide_of c.args.plan.now c.args.self.now c.args.standing.now c.args.task (task_numbers c.args.tasks.now) c.requires.can q l in
    let same = ap (λ (x : Peaks). length (get_or x.trees.items q [])) c.lay.ensures.same in
    omega (arith, wide, same)

pub refill_all-requires-clause-room : goal.refill_all-requires-clause-room
refill_all-requires-clause-room c =
    let once = order_once c.args.plan.now c.args.self.now c.args.standing.now c.args.task (task_numbers c.args.tasks.now) c.requires.can in
    let few = few_once (count_tasks c.args.plan.now) (task_numbers c.args.tasks.now) once.0 once.1 in
    let count = count_tasks_in c.args.tasks.now in
    omega (arith, few, count, c.requires.room)

pub renew-requires-clause-one : goal.renew-requires-clause-one
renew-requires-clause-one c = c.requires.can.tied.behind.rules.one

pub renew-requires-clause-seated : goal.renew-requires-clause-seated
renew-requires-clause-seated c = subst (λ (x : Peaks). IsSeating c.args.plan.now x.seating) (sym c.refill_all.ensures.same) c.lay.ensures.laid.seated

pub renew-requires-clause-grouped : goal.renew-requires-clause-grouped
renew-requires-clause-grouped c =
    let tied = c.requires.can.tied in
    subst (λ (x : Peaks). WasGrouped c.args.plan.now x.seating x.ready) (sym c.refill_all.ensures.same)
    (subst (WasGrouped c.args.plan.now c.lay.new.self.seating) (sym (ap (λ (x : Peaks). x.ready) c.lay.ensures.same))
    (record { before = c.args.self.now.seating; seated = tied.behind.seated; homes = c.lay.ensures.laid.homes; grouped = tied.indexed.grouped }))

pub refresh_all-requires-clause-groups : goal.refresh_all-requires-clause-groups
refresh_all-requires-clause-groups c = c.renew.ensures

pub refresh_all-requires-clause-small : goal.refresh_all-requires-clause-small
refresh_all-requires-clause-small c = subst AreSmall (sym (c.refill_all.ensures.same ∙ ap (λ (x : Peaks). record x { trees = c.refill_all.new.self.trees }) c.lay.ensures.same)) (λ u. c.requires.can.tied.indexed.small u)

pub returns-clause-tied : goal.returns-clause-tied
returns-clause-tied c = λ s w tied allowed order shown.
    let b : Peaks = c.args.self.now in
    let t : ℕ = c.args.task in
    let mid : Peaks = c.refill_all.new.self in
    let same = c.refill_all.ensures.same ∙ ap (λ (x : Peaks). record x { trees = mid.trees }) c.lay.ensures.same in
    let seating = ap (λ (x : Peaks). x.seating) c.refill_all.ensures.same in
    let trees = renewed_tied c.args.plan.now s b mid c.args.standing.now w t (task_numbers c.args.tasks.now) tied allowed order shown (record {
      same = subst (λ (x : Peaks). x ≡ record b { seating = x.seating; left = x.left; first = 0; base = x.base; trees = x.trees }) (sym same) refl;
      laid = subst (λ (x : Seating). IsLaid c.args.plan.now b.seating x (task_numbers c.args.tasks.now)) (sym seating) c.lay.ensures.laid;
      marks_long = ap (λ (x : Peaks). length x.left.items) c.refill_all.ensures.same ∙ c.lay.ensures.marks;
      left = λ u. ap (λ (x : Peaks). left_of x u) c.refill_all.ensures.same ∙ c.lay.ensures.left u;
      bases_long = ap (λ (x : Peaks). length x.base.items) same ∙ c.add_base.ensures.long;
      base = λ q. ap (λ (x : Peaks). get_or x.base.items q 0) same ∙ c.add_base.ensures.each q ∙ ap (λ (n : ℕ). cond (is_place q (get_or b.seating.homes.items t None)) (get_or b.base.items q 0 + n) (get_or b.base.items q 0)) c.need-need.ensures;
      trees_long = c.refill_all.ensures.long ∙ ap (λ (x : Peaks). length x.trees.items) c.lay.ensures.same;
      trees = λ q l. c.refill_all.ensures.trees q l ∙ ap (λ (x : Peaks). renewed_values c.args.plan.now (sizes (held_of c.args.standing.now)) (task_numbers c.args.tasks.now) q (get_or x.trees.items q [])) c.lay.ensures.same;
    }) in
    tied_with c.args.plan.now (after c.args.plan.now s (Regrant w t)) mid c.refresh_all.new.self trees c.refresh_all.ensures.same
    (indexed_with c.args.plan.now mid c.refresh_all.new.self (λ u. false) (subst AreSmall (sym same) (λ u. tied.indexed.small u))
    (rising_of c.args.plan.now (after c.args.plan.now s (Regrant w t)) mid (stack_of mid) trees.behind) c.refresh_all.ensures.same c.refresh_all.ensures.groups c.refresh_all.ensures.indexed (λ u. refl))
