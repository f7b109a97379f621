use Rattle.std.proofs.Common.{◌≡◌, ◌≢◌, ◌<◌, ℕ, List, length, ap, sym, subst, get_or, arith}
use Rattle.storage_simulation.specs.code.Index.{Spot, spot_at}
use Rattle.storage_simulation.specs.code.Ordering.{progress}
use Rattle.storage_simulation.proofs.SpotLemmas.{apart, spots_are, spots_long, spots_low}
use Rattle.storage_simulation.proofs.laying.lay_spots.Goals as goal

pub fill_slots-requires-clause-few : goal.fill_slots-requires-clause-few
fill_slots-requires-clause-few c =
    let long = spots_long c.args.plan.now c.fill_spots.new.spots.items c.sort_spots.new.spots.items c.fill_spots.ensures.long c.sort_spots.ensures.permutation in
    let same = ap length c.deref.ensures.value in
    let few = c.requires.limits.tasks in omega (arith, long, same, few)

pub fill_slots-requires-clause-below : goal.fill_slots-requires-clause-below
fill_slots-requires-clause-below c = subst (λ (xs : List Spot). (j : ℕ) → j < length xs → (spot_at xs j).2 < length c.args.slots.now.items) (sym c.deref.ensures.value)
    (λ j l. let low = spots_low c.args.plan.now (progress c.args.standing.now) c.fill_spots.new.spots.items c.sort_spots.new.spots.items c.fill_spots.ensures.long c.fill_spots.ensures.each c.sort_spots.ensures.permutation j l in omega (arith, low, c.requires.slots))

pub fill_slots-requires-clause-once : goal.fill_slots-requires-clause-once
fill_slots-requires-clause-once c = subst (λ (xs : List Spot). (i j : ℕ) → i < j → j < length xs → (spot_at xs i).2 ≢ (spot_at xs j).2) (sym c.deref.ensures.value)
    (apart c.args.plan.now (progress c.args.standing.now) c.fill_spots.new.spots.items c.sort_spots.new.spots.items c.fill_spots.ensures.long c.fill_spots.ensures.each c.sort_spots.ensures.permutation)

pub returns-clause-spots : goal.returns-clause-spots
returns-clause-spots c =
    spots_are c.args.plan.now (progress c.args.standing.now) c.fill_spots.new.spots.items c.sort_spots.new.spots.items c.fill_slots.new.slots.items c.fill_spots.ensures.long c.fill_spots.ensures.each c.sort_spots.ensures.permutation c.sort_spots.ensures.sorted
    (subst (λ (xs : List Spot). (j : ℕ) → j < length xs → get_or c.fill_slots.new.slots.items (spot_at xs j).2 0 ≡ j) c.deref.ensures.value c.fill_slots.ensures.slotted)
