use Rattle.std.proofs.Common.{◌≤◌, ◌<◌, ℕ, List, length, ap, sym, subst, arith}
use Rattle.storage_simulation.specs.code.Front.{front_of}
use Rattle.storage_simulation.specs.code.Index.{IsCut, IsUpTo, Spot, is_before_home, is_up_to, spot_at}
use Rattle.storage_simulation.specs.code.Ordering.{progress}
use Rattle.storage_simulation.proofs.KeyingLemmas.{best_is}
use Rattle.storage_simulation.proofs.keying.best_of.Goals as goal

pub start_of-from-requires-clause-few : goal.start_of-from-requires-clause-few
start_of-from-requires-clause-few c = let same = ap length c.deref.ensures.value in let few = c.requires.set.limits.tasks in omega (arith, same, few, c.requires.laid.made_for.spots_long)

pub start_of-from-requires-clause-rising : goal.start_of-from-requires-clause-rising
start_of-from-requires-clause-rising c = subst (λ (xs : List Spot). (i j : ℕ) → i ≤ j → j < length xs → IsUpTo (spot_at xs i) (spot_at xs j)) (sym c.deref.ensures.value) (λ i j l m. c.requires.laid.spots.rising i j l (omega (arith, m, c.requires.laid.made_for.spots_long)))

pub end_of-to-requires-clause-few : goal.end_of-to-requires-clause-few
end_of-to-requires-clause-few c = let same = ap length c.deref-2.ensures.value in let few = c.requires.set.limits.tasks in omega (arith, same, few, c.requires.laid.made_for.spots_long)

pub end_of-to-requires-clause-rising : goal.end_of-to-requires-clause-rising
end_of-to-requires-clause-rising c = subst (λ (xs : List Spot). (i j : ℕ) → i ≤ j → j < length xs → IsUpTo (spot_at xs i) (spot_at xs j)) (sym c.deref-2.ensures.value) (λ i j l m. c.requires.laid.spots.rising i j l (omega (arith, m, c.requires.laid.made_for.spots_long)))

pub returns : goal.returns
returns c = best_is c.args.plan.now (progress c.args.standing.now) (front_of c.args.front.now) c.args.index.now c.args.at c.room_of-room.result c.start_of-from.result c.end_of-to.result c.least_between.result c.requires.laid c.requires.told c.room_of-room.ensures.fits
    (subst (λ (n : ℕ). IsCut (λ j. is_before_home c.args.at (spot_at c.args.index.now.spots.items j)) n c.start_of-from.result) c.requires.laid.made_for.spots_long (subst (λ (xs : List Spot). IsCut (λ j. is_before_home c.args.at (spot_at xs j)) (length xs) c.start_of-from.result) c.deref.ensures.value c.start_of-from.ensures))
    (subst (λ (n : ℕ). IsCut (λ j. is_up_to c.args.at c.room_of-room.result (spot_at c.args.index.now.spots.items j)) n c.end_of-to.result) c.requires.laid.made_for.spots_long (subst (λ (xs : List Spot). IsCut (λ j. is_up_to c.args.at c.room_of-room.result (spot_at xs j)) (length xs) c.end_of-to.result) c.deref-2.ensures.value c.end_of-to.ensures))
    c.least_between.ensures
